use Rattle.std.proofs.Common.{rules, arith, ◌≡◌, ◌++◌, ◌∷◌, [], sym, ap, ◌∙◌, subst, append-nil, List, Err, refl, map}
use Rattle.rt_values.specs.declared.value.Value.{Value}
use Rattle.rt_values.specs.Views.{Grew}
use Rattle.rt_groups.specs.declared.groups.GroupKind.TheVariants as what
use Rattle.rt_groups.specs.PreorderGroups.{flat_kind}
use Rattle.rt_groups.specs.GroupForest.{End, Cell}
use Rattle.rt_groups.specs.Paths.{sibling, occurrence, matching_sibling}
use Rattle.lang_ast.specs.declared.binding.Binding.{Binding}
use Rattle.lang_ast.specs.ResultsWithReads.{Reading}
use Rattle.lang_ast.specs.Evaluation.{new_binding, eval, eval_named}
use Rattle.lang_ast.specs.SyntaxView.{expr_view, nameds_view}
use Rattle.composer.specs.declared.stop.ComposeStop.TheVariants.{NoMemory}
use Rattle.composer.specs.WrittenGroups.{WrittenGroups, state_of, kept_of}
use Rattle.composer.specs.Recomposes.{ComposesBeside}
use Rattle.composer.proofs.Machine.{same_state}
use Rattle.composer.proofs.BesideSteps.{beside_stop_here, beside_stop_after, beside_after, beside_full, beside_cell}
use Rattle.composer.proofs.Matching.{matched, matched_state, kept_is_calculated, entered_longer, beside_now}
use Rattle.composer.proofs.ReadCounts.{failed}
use Rattle.composer.proofs.Tables.{fits_after}
use Rattle.composer.proofs.EnteredBlocks.{stopped_value, on_err, continues_stopped, counted_entered}
use Rattle.composer.proofs.blocks.enter_cell.Goals as goal

pub returns-in_err-env : goal.returns-in_err-env
returns-in_err-env g c =
    let e : c.from_residual.result ≡ Err NoMemory = search rules in
    record {
      part = continues_stopped _ _ e (c.in_err-env.ensures.keeps) (c.in_err-env.ensures.same);
      deep = stopped_value _ _ _ e;
      found = stopped_value _ _ _ e;
      failed = λ m o go h b calc.
          let p = c.in_err-env.ensures.part m h in on_err _ (beside_stop_after _ _ _ e p.rest p.is);
      remains = λ m o go h b calc. stopped_value _ _ _ e;
    }

pub returns-in_err-found : goal.returns-in_err-found
returns-in_err-found g c =
    let e : c.from_residual-in_err-found.result ≡ Err NoMemory = search rules in
    record {
      part = continues_stopped _ _ e (c.in_ok-env.ensures.keeps) (c.in_ok-env.ensures.same);
      deep = stopped_value _ _ _ e;
      found = stopped_value _ _ _ e;
      failed = λ m o go h b calc. on_err _
          (beside_after _ _ (state_of c.args.made.now.writer (g.V.View.asked c.evaluate_keys.new.view) c.evaluate_keys.new.reads) (same_state refl refl refl refl (c.in_ok-env.ensures.asks m h)
          (c.in_ok-env.ensures.reads m h)) (beside_stop_here _ e refl));
      remains = λ m o go h b calc. stopped_value _ _ _ e;
    }

pub returns-in_err-remembered : goal.returns-in_err-remembered
returns-in_err-remembered g c =
    let e : c.from_residual-in_err-remembered.result ≡ Err NoMemory = search rules in
    record {
      part = continues_stopped _ _ e (g.met.V.View.keeps_on _ _ _ c.in_ok-env.ensures.keeps c.in_err-remembered.ensures.keeps) (λ m h. c.in_err-remembered.ensures.same m (c.in_ok-env.ensures.same m h));
      deep = stopped_value _ _ _ e;
      found = stopped_value _ _ _ e;
      failed = λ m o go h b calc.
          let ev = ap (λ (k : List Binding). eval m (expr_view c.args.value.now) k) (c.in_ok-env.ensures.value m h) in
          let p = subst (λ (r : Reading Value). Grew (g.V.View.asked c.evaluate_keys.new.view)
          (g.V.View.asked c.remember.new.view) r.reads) ev
          (c.in_err-remembered.ensures.part m (c.in_ok-env.ensures.same m h)) in
          on_err _ (beside_after _ _ (state_of c.args.made.now.writer (g.V.View.asked c.evaluate_keys.new.view) c.evaluate_keys.new.reads) (same_state refl refl refl refl (c.in_ok-env.ensures.asks m h)
          (c.in_ok-env.ensures.reads m h)) (beside_stop_after _ _ _ e p.rest p.is));
      remains = λ m o go h b calc. stopped_value _ _ _ e;
    }

pub returns-in_err-enter_cell : goal.returns-in_err-enter_cell
returns-in_err-enter_cell g c =
    let e : c.from_residual-in_err-enter_cell.result ≡ Err c.in_err-enter_cell.field-0.0 = search rules in
    record {
      part = continues_stopped _ _ e (g.met.V.View.keeps_on _ _ _ c.in_ok-env.ensures.keeps c.in_ok-remembered.ensures.keeps) (λ m h. c.in_ok-remembered.ensures.same m (c.in_ok-env.ensures.same m h));
      deep = stopped_value _ _ _ e;
      found = stopped_value _ _ _ e;
      failed = λ m o go h b calc.
          let env = (eval_named m (nameds_view c.args.keys.now) c.args.made.now.scope).value in
          let ev = ap (λ (k : List Binding). eval m (expr_view c.args.value.now) k) (c.in_ok-env.ensures.value m h) in
          let there = c.in_ok-env.ensures.same m h in
          let none = (calc m c.args.made.now.scope).1 in
          let quiet : (eval m (expr_view c.args.value.now) c.in_ok-env.env).reads ≡ [] =
          ap (λ (r : Reading Value). r.reads) ev ∙ none in
          let asks : g.V.View.asked c.remember.new.view ≡ g.V.View.asked c.evaluate_keys.new.view ++ (eval m (expr_view c.args.value.now) env).reads =
          c.in_ok-remembered.ensures.asks m there quiet ∙ sym (append-nil (g.V.View.asked c.evaluate_keys.new.view))
          ∙ ap (λ l. g.V.View.asked c.evaluate_keys.new.view ++ l) (sym none) in
          let reads : c.remember.new.reads ≡ c.evaluate_keys.new.reads ++ (eval m (expr_view c.args.value.now) env).reads =
          c.in_ok-remembered.ensures.reads m there quiet ∙ sym (append-nil c.evaluate_keys.new.reads)
          ∙ ap (λ l. c.evaluate_keys.new.reads ++ l) (sym none) in
          on_err _ (beside_after _ _ (state_of c.args.made.now.writer (g.V.View.asked c.evaluate_keys.new.view) c.evaluate_keys.new.reads) (same_state refl refl refl refl (c.in_ok-env.ensures.asks m h)
          (c.in_ok-env.ensures.reads m h))
          (beside_after _ _ (state_of c.args.made.now.writer (g.V.View.asked c.remember.new.view) c.remember.new.reads)
          (same_state refl refl refl refl asks reads) (beside_full _ (failed _ _ e) (search rules) refl)));
      remains = λ m o go h b calc. stopped_value _ _ _ e;
    }

pub returns : goal.returns
returns g c = record {
  part = record {
    keeps = g.met.V.View.keeps_on _ _ _ c.in_ok-env.ensures.keeps c.in_ok-remembered.ensures.keeps;
    same = λ m h. c.in_ok-remembered.ensures.same m (c.in_ok-env.ensures.same m h);
    same_scope = refl;
    longer = entered_longer _ _
        (what.Cell (map (λ (k : Binding). k.value) c.in_ok-env.env) c.in_ok-remembered.remembered.value)
        c.in_ok-found.found c.args.made.now.writer _ c.in_ok-enter_cell.ensures.entered;
    fits = record {
      written = fits_after (ap (λ (q : WrittenGroups). q.olds) c.in_ok-enter_cell.ensures.entered)
          c.requires.stays.written c.in_ok-enter_cell.ensures.fits;
      pending = c.in_ok-found.ensures.table ∙ c.requires.stays.pending;
    };
    counted = λ m h. counted_entered _ _ _ c.evaluate_keys.new.reads _ _ (g.V.View.asked c.evaluate_keys.new.view) _ _
        (c.in_ok-env.ensures.asks m h) (c.in_ok-env.ensures.reads m h)
        (c.in_ok-remembered.ensures.counted m (c.in_ok-env.ensures.same m h))
        (ap (λ (q : WrittenGroups). q.reads) c.in_ok-enter_cell.ensures.entered);
  };
  deep = let more = entered_longer c.args.level.now.depth c.args.site
      (what.Cell (map (λ (k : Binding). k.value) c.in_ok-env.env) c.in_ok-remembered.remembered.value)
      c.in_ok-found.found c.args.made.now.writer _ c.in_ok-enter_cell.ensures.entered in
      let deep = c.requires.deep in omega (arith, more, deep);
  found = tt;
  failed = λ m o go h b calc. tt;
  remains = λ m o go h b calc. record {
    whole = λ s' after result inner.
        let env = (eval_named m (nameds_view c.args.keys.now) c.args.made.now.scope).value in
        let ev = ap (λ (k : List Binding). eval m (expr_view c.args.value.now) k) (c.in_ok-env.ensures.value m h) in
        let there = c.in_ok-env.ensures.same m h in
        let none = (calc m c.args.made.now.scope).1 in
        let quiet : (eval m (expr_view c.args.value.now) c.in_ok-env.env).reads ≡ [] =
        ap (λ (r : Reading Value). r.reads) ev ∙ none in
        let asks : g.V.View.asked c.remember.new.view ≡ g.V.View.asked c.evaluate_keys.new.view ++ (eval m (expr_view c.args.value.now) env).reads =
        c.in_ok-remembered.ensures.asks m there quiet ∙ sym (append-nil (g.V.View.asked c.evaluate_keys.new.view))
        ∙ ap (λ l. g.V.View.asked c.evaluate_keys.new.view ++ l) (sym none) in
        let reads : c.remember.new.reads ≡ c.evaluate_keys.new.reads ++ (eval m (expr_view c.args.value.now) env).reads =
        c.in_ok-remembered.ensures.reads m there quiet ∙ sym (append-nil c.evaluate_keys.new.reads)
        ∙ ap (λ l. c.evaluate_keys.new.reads ++ l) (sym none) in
        let ks = map (λ (k : Binding). k.value) env in
        let v = (eval m (expr_view c.args.value.now) env).value in
        let w = Cell ks v in
        let x = sibling c.args.site w in
        let keys = map (λ (k : Binding). k.value) c.in_ok-env.env in
        let keys_are : keys ≡ ks = ap (λ (k : List Binding). map (λ b. b.value) k) (c.in_ok-env.ensures.value m h) in
        let k = matched {left = c.take.new.self} x c.new.result c.new.ensures b c.in_ok-found.ensures.found
        c.in_ok-found.ensures.left in
        let old = matching_sibling x (occurrence x o.seen) o.old in
        let value : c.in_ok-remembered.remembered.value ≡ v = c.in_ok-remembered.ensures.value m v there
        (λ u e. kept_is_calculated o.last.calculation c.args.level.now.depth c.args.site ks c.in_ok-found.found old u
        k.like k.there.cells (ap (λ (l : List Binding). kept_of c.in_ok-found.found (map (λ b. b.value) l))
        (sym (c.in_ok-env.ensures.value m h)) ∙ e) ∙ sym (calc m c.args.made.now.scope).0)
        (ap (λ (r : Reading Value). r.value) ev) in
        let made : what.Cell keys c.in_ok-remembered.remembered.value ≡ flat_kind w =
        ap (λ (l : List Value). what.Cell l c.in_ok-remembered.remembered.value) keys_are
        ∙ ap (λ (y : Value). what.Cell ks y) value in
        let state = matched_state c.args.level.now.depth c.args.site w (what.Cell keys c.in_ok-remembered.remembered.value) End
        c.in_ok-found.found old c.args.made.now.writer c.enter_cell.new.self (g.V.View.asked c.remember.new.view)
        c.remember.new.reads refl k.like made c.in_ok-enter_cell.ensures.entered in
        let now = x ∷ o.seen in
        let P : Value → Type 0 = λ y. ComposesBeside c.args.level.now.last.now.owed.objects o.old c.args.level.now.depth now
        (go (c.args.made.now.scope ++ new_binding c.args.name.now.text y ∷ []))
        (state_of c.enter_cell.new.self (g.V.View.asked c.remember.new.view) c.remember.new.reads) s' after result in
        beside_after _ _ (state_of c.args.made.now.writer (g.V.View.asked c.evaluate_keys.new.view) c.evaluate_keys.new.reads) (same_state refl refl refl refl (c.in_ok-env.ensures.asks m h)
        (c.in_ok-env.ensures.reads m h)) (beside_after _ _
        (state_of c.args.made.now.writer (g.V.View.asked c.remember.new.view) c.remember.new.reads)
        (same_state refl refl refl refl asks reads)
        (beside_cell (state_of c.enter_cell.new.self (g.V.View.asked c.remember.new.view) c.remember.new.reads) state
        (subst P value (inner now (beside_now now b k.fits)))));
  };
}
