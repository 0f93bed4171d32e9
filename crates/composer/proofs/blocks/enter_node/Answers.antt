use Rattle.std.proofs.Common.{rules, ◌≡◌, ap, ◌∙◌, subst, List, Err, refl, map}
use Rattle.rt_groups.specs.declared.groups.Group.{Group as Listed}
use Rattle.rt_groups.specs.declared.groups.GroupKind.TheVariants as what
use Rattle.rt_groups.specs.declared.groups.Attribute.{Attribute}
use Rattle.rt_groups.specs.PreorderGroups.{flat_kind}
use Rattle.rt_groups.specs.GroupForest.{Node}
use Rattle.lang_ast.specs.Evaluation.{eval_named}
use Rattle.lang_ast.specs.SyntaxView.{nameds_view}
use Rattle.compose_model.specs.Composing.{attribute}
use Rattle.composer.specs.declared.stop.ComposeStop.TheVariants.{NoMemory}
use Rattle.composer.specs.OldSiblings.{IsFoundIn}
use Rattle.composer.specs.WrittenGroups.{WrittenGroups, state_of}
use Rattle.composer.proofs.Machine.{same_state}
use Rattle.composer.proofs.BesideSteps.{beside_stop_here, beside_stop_after, beside_after, beside_full}
use Rattle.composer.proofs.EnteredGroups.{entered_beside}
use Rattle.composer.proofs.Matching.{entered_longer}
use Rattle.composer.proofs.ReadCounts.{failed}
use Rattle.composer.proofs.Tables.{fits_after}
use Rattle.composer.proofs.EnteredBlocks.{stopped_value, on_err, continues_stopped, counted_entered, entered_deep}
use Rattle.composer.proofs.blocks.enter_node.Goals as goal

pub returns-in_err-room : goal.returns-in_err-room
returns-in_err-room g c =
    let e : c.from_residual.result ≡ Err NoMemory = search rules in
    record {
      part = continues_stopped _ _ e (g.met.V.View.keeps_itself _) (λ m h. h);
      deep = stopped_value _ _ _ e;
      found = stopped_value _ _ _ e;
      failed = λ m o go h b calc. on_err _ (beside_stop_here _ e refl);
      remains = λ m o go h b calc. stopped_value _ _ _ e;
    }

pub returns-in_err-attributes : goal.returns-in_err-attributes
returns-in_err-attributes g c =
    let e : c.from_residual-in_err-attributes.result ≡ Err NoMemory = search rules in
    record {
      part = continues_stopped _ _ e (c.in_err-attributes.ensures.keeps) (c.in_err-attributes.ensures.same);
      deep = stopped_value _ _ _ e;
      found = stopped_value _ _ _ e;
      failed = λ m o go h b calc.
          let p = c.in_err-attributes.ensures.part m h in on_err _ (beside_stop_after _ _ _ e p.rest p.is);
      remains = λ m o go h b calc. stopped_value _ _ _ e;
    }

pub returns-in_err-found : goal.returns-in_err-found
returns-in_err-found g c =
    let e : c.from_residual-in_err-found.result ≡ Err c.in_err-found.field-0.0 = search rules in
    record {
      part = continues_stopped _ _ e (c.in_ok-attributes.ensures.keeps) (c.in_ok-attributes.ensures.same);
      deep = stopped_value _ _ _ e;
      found = stopped_value _ _ _ e;
      failed = λ m o go h b calc. on_err _
          (beside_after _ _ (state_of c.args.made.now.writer (g.V.View.asked c.evaluate_attributes.new.view) c.evaluate_attributes.new.reads)
          (same_state refl refl refl refl (c.in_ok-attributes.ensures.asks m h) (c.in_ok-attributes.ensures.reads m h))
          (beside_full _ (failed _ _ e) (search rules) refl));
      remains = λ m o go h b calc. stopped_value _ _ _ e;
    }

pub returns : goal.returns
returns g c = record {
  part = record {
    keeps = c.in_ok-attributes.ensures.keeps;
    same = c.in_ok-attributes.ensures.same;
    same_scope = refl;
    longer = entered_longer _ _ (what.Node c.args.kind.now.text c.in_ok-attributes.attributes) c.in_ok-found.found c.args.made.now.writer _ c.in_ok-found.ensures.entered;
    fits = record {
      written = fits_after (ap (λ (q : WrittenGroups). q.olds) c.in_ok-found.ensures.entered)
          c.requires.stays.written c.in_ok-found.ensures.fits;
      pending = c.in_ok-found.ensures.table ∙ c.requires.stays.pending;
    };
    counted = λ m h. counted_entered _ _ _ c.evaluate_attributes.new.reads c.evaluate_attributes.new.reads _ (g.V.View.asked c.evaluate_attributes.new.view)
        (g.V.View.asked c.evaluate_attributes.new.view) _ (c.in_ok-attributes.ensures.asks m h) (c.in_ok-attributes.ensures.reads m h) refl
        (ap (λ (q : WrittenGroups). q.reads) c.in_ok-found.ensures.entered);
  };
  deep = entered_deep _ _ (what.Node c.args.kind.now.text c.in_ok-attributes.attributes) c.in_ok-found.found c.args.made.now.writer _ c.in_ok-found.ensures.entered
      c.requires.deep;
  found = subst (λ (l : List Listed). IsFoundIn l c.in_ok-found.found) c.requires.stays.pending
      c.in_ok-found.ensures.old;
  failed = λ m o go h b calc. tt;
  remains = λ m o go h b calc. record {
    whole = λ s' after result k.
        let all = (eval_named m (nameds_view c.args.attributes.now) c.args.made.now.scope).value in
        let w = Node c.args.kind.now.text (map attribute all) in
        let made : what.Node c.args.kind.now.text c.in_ok-attributes.attributes ≡ flat_kind w =
        ap (λ (l : List Attribute). what.Node c.args.kind.now.text l) (c.in_ok-attributes.ensures.value m h) in
        beside_after _ _ (state_of c.args.made.now.writer (g.V.View.asked c.evaluate_attributes.new.view) c.evaluate_attributes.new.reads)
        (same_state refl refl refl refl (c.in_ok-attributes.ensures.asks m h) (c.in_ok-attributes.ensures.reads m h))
        (entered_beside result c.enter_group.new.pending w
        (what.Node c.args.kind.now.text c.in_ok-attributes.attributes) made refl b c.in_ok-found.ensures.found
        c.in_ok-found.ensures.left c.in_ok-found.ensures.entered k.0 k.1);
  };
}
