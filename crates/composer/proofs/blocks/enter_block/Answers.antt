use Rattle.std.proofs.Common.{rules, ◌≡◌, ◌++◌, ◌∷◌, [], arith, sym, ap, ◌∙◌, subst, List, Err, refl}
use Rattle.rt_values.specs.declared.value.Value.{Value}
use Rattle.rt_values.specs.declared.value.Value.TheVariants as value
use Rattle.rt_values.specs.Operators.{items_of}
use Rattle.lang_ast.specs.declared.syntax.Named.{Named}
use Rattle.lang_ast.specs.Terms.{Node, Remember}
use Rattle.lang_ast.specs.Evaluation.{new_binding}
use Rattle.lang_ast.specs.SyntaxView.{expr_view, nameds_view, head_view}
use Rattle.compose_model.specs.Composing.{turns}
use Rattle.composer.specs.declared.stop.ComposeStop.TheVariants.{NoMemory}
use Rattle.composer.specs.WrittenGroups.{state_of}
use Rattle.composer.specs.Recomposes.{ComposesBeside}
use Rattle.composer.proofs.Machine.{same_state}
use Rattle.composer.proofs.BesideSteps.{beside_stop_after, beside_after}
use Rattle.composer.proofs.Matching.{beside_now}
use Rattle.composer.proofs.EnteredBlocks.{enters_as, stopped_value, on_err, continues_stopped, counted_entered}
use Rattle.composer.proofs.blocks.enter_block.Goals as goal

pub returns-in-Node : goal.returns-in-Node
returns-in-Node g c =
    enters_as _ _ (ap head_view c.in-Node.is
    ∙ ap (λ (l : List Named). Node c.in-Node.kind (nameds_view l)) (sym c.deref.ensures.value)) c.enter_node.ensures

pub returns-in-Key : goal.returns-in-Key
returns-in-Key g c = enters_as _ _ (ap head_view c.in-Key.is) c.enter_key.ensures

pub returns-in-Remember : goal.returns-in-Remember
returns-in-Remember g c =
    enters_as _ _ (ap head_view c.in-Remember.is
    ∙ ap (λ (l : List Named). Remember c.in-Remember.name (nameds_view l) (expr_view c.in-Remember.value))
    (sym c.deref-in-Remember.ensures.value)) c.enter_cell.ensures

pub returns-in_err-list-in-For : goal.returns-in_err-list-in-For
returns-in_err-list-in-For g c =
    let e : c.from_residual.result ≡ Err NoMemory = search rules in
    enters_as _ _ (ap head_view c.in-For.is) (record {
      part = continues_stopped _ _ e (c.in_err-list-in-For.ensures.keeps) (c.in_err-list-in-For.ensures.same);
      deep = stopped_value _ _ _ e;
      found = stopped_value _ _ _ e;
      failed = λ m o go h b calc.
          let p = c.in_err-list-in-For.ensures.part m h in on_err _ (beside_stop_after _ _ _ e p.rest p.is);
      remains = λ m o go h b calc. stopped_value _ _ _ e;
    })

pub returns-in_ok-list-in-For : goal.returns-in_ok-list-in-For
returns-in_ok-list-in-For g c =
    enters_as _ _ (ap head_view c.in-For.is) (record {
      part = record {
        keeps = c.in_ok-list-in-For.ensures.keeps;
        same = c.in_ok-list-in-For.ensures.same;
        same_scope = refl;
        longer = omega arith;
        fits = record { written = c.requires.stays.written; pending = c.requires.stays.pending };
        counted = λ m h. counted_entered c.args.made.now.writer.reads _ _ c.eval_noting.new.reads c.eval_noting.new.reads _
            (g.V.View.asked c.eval_noting.new.view) (g.V.View.asked c.eval_noting.new.view) _
            (c.in_ok-list-in-For.ensures.asks m h) (c.in_ok-list-in-For.ensures.reads m h) refl refl;
      };
      deep = c.requires.deep;
      found = tt;
      failed = λ m o go h b calc. tt;
      remains = λ m o go h b calc. record {
        whole = λ s' after result inner.
            let P : Value → Type 0 = λ v. ComposesBeside c.args.level.now.last.now.owed.objects o.old
            c.args.level.now.depth o.seen (turns (λ i. go (c.args.made.now.scope ++ new_binding c.in-For.name.text (value.Int i) ∷ []))
            (items_of v))
            (state_of c.args.made.now.writer (g.V.View.asked c.eval_noting.new.view) c.eval_noting.new.reads) s' after result in
            beside_after _ _ (state_of c.args.made.now.writer (g.V.View.asked c.eval_noting.new.view) c.eval_noting.new.reads)
            (same_state refl refl refl refl (c.in_ok-list-in-For.ensures.asks m h) (c.in_ok-list-in-For.ensures.reads m h))
            (subst P (c.in_ok-list-in-For.ensures.value m h) (inner o.seen (beside_now o.seen b b.fits)));
      };
    })

pub returns-in_err-value-in-Let : goal.returns-in_err-value-in-Let
returns-in_err-value-in-Let g c =
    let e : c.from_residual-in_err-value-in-Let.result ≡ Err NoMemory = search rules in
    enters_as _ _ (ap head_view c.in-Let.is) (record {
      part = continues_stopped _ _ e (c.in_err-value-in-Let.ensures.keeps) (c.in_err-value-in-Let.ensures.same);
      deep = stopped_value _ _ _ e;
      found = stopped_value _ _ _ e;
      failed = λ m o go h b calc.
          let p = c.in_err-value-in-Let.ensures.part m h in on_err _ (beside_stop_after _ _ _ e p.rest p.is);
      remains = λ m o go h b calc. stopped_value _ _ _ e;
    })

pub returns-in_ok-value-in-Let : goal.returns-in_ok-value-in-Let
returns-in_ok-value-in-Let g c =
    enters_as _ _ (ap head_view c.in-Let.is) (record {
      part = record {
        keeps = c.in_ok-value-in-Let.ensures.keeps;
        same = c.in_ok-value-in-Let.ensures.same;
        same_scope = refl;
        longer = omega arith;
        fits = record { written = c.requires.stays.written; pending = c.requires.stays.pending };
        counted = λ m h. counted_entered c.args.made.now.writer.reads _ _ c.eval_noting-in-Let.new.reads c.eval_noting-in-Let.new.reads _
            (g.V.View.asked c.eval_noting-in-Let.new.view) (g.V.View.asked c.eval_noting-in-Let.new.view) _
            (c.in_ok-value-in-Let.ensures.asks m h) (c.in_ok-value-in-Let.ensures.reads m h) refl refl;
      };
      deep = c.requires.deep;
      found = tt;
      failed = λ m o go h b calc. tt;
      remains = λ m o go h b calc. record {
        whole = λ s' after result inner.
            let P : Value → Type 0 = λ v. ComposesBeside c.args.level.now.last.now.owed.objects o.old
            c.args.level.now.depth o.seen (go (c.args.made.now.scope ++ new_binding c.in-Let.name.text v ∷ []))
            (state_of c.args.made.now.writer (g.V.View.asked c.eval_noting-in-Let.new.view) c.eval_noting-in-Let.new.reads) s' after result in
            beside_after _ _ (state_of c.args.made.now.writer (g.V.View.asked c.eval_noting-in-Let.new.view) c.eval_noting-in-Let.new.reads)
            (same_state refl refl refl refl (c.in_ok-value-in-Let.ensures.asks m h) (c.in_ok-value-in-Let.ensures.reads m h))
            (subst P (c.in_ok-value-in-Let.ensures.value m h) (inner o.seen (beside_now o.seen b b.fits)));
      };
    })
