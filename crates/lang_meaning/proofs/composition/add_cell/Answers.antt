use Rattle.std.proofs.Common.{rules, arith, ◌≡◌, ◌++◌, ◌∷◌, [], ap, ◌∙◌, subst, List, Err, refl, map, length, length-append}
use Rattle.rt_values.specs.declared.value.Value.{Value}
use Rattle.rt_values.specs.Views.{Grew}
use Rattle.rt_groups.specs.declared.groups.GroupKind.TheVariants as what
use Rattle.rt_groups.specs.PreorderGroups.{flat_group}
use Rattle.lang_ast.specs.declared.binding.Binding.{Binding}
use Rattle.lang_ast.specs.ResultsWithReads.{Reading}
use Rattle.lang_ast.specs.Evaluation.{eval, eval_named}
use Rattle.lang_ast.specs.SyntaxView.{expr_view, nameds_view}
use Rattle.lang_meaning.specs.declared.composition.ScratchStop.TheVariants.{NoMemory}
use Rattle.lang_eval.proofs.Grows.{grew_all}
use Rattle.lang_meaning.proofs.ForestSteps.{stopped, stopped_value, ran_stop_after, ran_after, ran_full, ran_added}
use Rattle.lang_meaning.proofs.composition.add_cell.Goals as goal

pub returns-in_err-keys : goal.returns-in_err-keys
returns-in_err-keys g c =
    let e : c.from_residual.result ≡ Err NoMemory = search rules in
    record {
      value = λ m h. stopped_value _ _ _ e;
      composed = record {
        keeps = c.in_err-keys.ensures.keeps;
        same = c.in_err-keys.ensures.same;
        same_scope = stopped _ _ _ e;
        longer = stopped _ _ _ e;
        fits = stopped _ _ _ e;
        ran = λ m h.
            ran_stop_after _ _ _ _ _ _ _ _ _ _ e (c.in_err-keys.ensures.part m h);
      };
    }

pub returns-in_err-value : goal.returns-in_err-value
returns-in_err-value g c =
    let e : c.from_residual-in_err-value.result ≡ Err NoMemory = search rules in
    record {
      value = λ m h. stopped_value _ _ _ e;
      composed = record {
        keeps = g.met.V.View.keeps_on _ _ _ c.in_ok-keys.ensures.keeps c.in_err-value.ensures.keeps;
        same = λ m h. c.in_err-value.ensures.same m (c.in_ok-keys.ensures.same m h);
        same_scope = stopped _ _ _ e;
        longer = stopped _ _ _ e;
        fits = stopped _ _ _ e;
        ran = λ m h.
            let ev = ap (λ (k : List Binding). eval m (expr_view c.args.value.now) k) (c.in_ok-keys.ensures.value m h) in
            let part = subst (λ (r : Reading Value). Grew (g.V.View.asked c.evaluate_keys.new.view)
            (g.V.View.asked c.eval_noting.new.view) r.reads) ev
            (c.in_err-value.ensures.part m (c.in_ok-keys.ensures.same m h)) in
            ran_after _ _ _ _ _ _ _ _ _ _ _ _ (c.in_ok-keys.ensures.asks m h) (c.in_ok-keys.ensures.reads m h)
            (ran_stop_after _ _ _ _ _ _ _ _ _ _ e part);
      };
    }

pub returns-in_err-keys-2 : goal.returns-in_err-keys-2
returns-in_err-keys-2 g c =
    let e : c.from_residual-in_err-keys-2.result ≡ Err NoMemory = search rules in
    record {
      value = λ m h. stopped_value _ _ _ e;
      composed = record {
        keeps = g.met.V.View.keeps_on _ _ _ c.in_ok-keys.ensures.keeps c.in_ok-value.ensures.keeps;
        same = λ m h. c.in_ok-value.ensures.same m (c.in_ok-keys.ensures.same m h);
        same_scope = stopped _ _ _ e;
        longer = stopped _ _ _ e;
        fits = stopped _ _ _ e;
        ran = λ m h.
            let ev = ap (λ (k : List Binding). eval m (expr_view c.args.value.now) k) (c.in_ok-keys.ensures.value m h) in
            let asks = c.in_ok-value.ensures.asks m (c.in_ok-keys.ensures.same m h)
            ∙ ap (λ (r : Reading Value). g.V.View.asked c.evaluate_keys.new.view ++ r.reads) ev in
            ran_after _ _ _ _ _ _ _ _ _ _ _ _ (c.in_ok-keys.ensures.asks m h) (c.in_ok-keys.ensures.reads m h)
            (ran_stop_after _ _ _ _ _ _ _ _ _ _ e (grew_all _ _ _ asks));
      };
    }

pub returns-in_err-copy : goal.returns-in_err-copy
returns-in_err-copy g c =
    let e : c.from_residual-in_err-copy.result ≡ Err NoMemory = search rules in
    record {
      value = λ m h. stopped_value _ _ _ e;
      composed = record {
        keeps = g.met.V.View.keeps_on _ _ _ c.in_ok-keys.ensures.keeps c.in_ok-value.ensures.keeps;
        same = λ m h. c.in_ok-value.ensures.same m (c.in_ok-keys.ensures.same m h);
        same_scope = stopped _ _ _ e;
        longer = stopped _ _ _ e;
        fits = stopped _ _ _ e;
        ran = λ m h.
            let ev = ap (λ (k : List Binding). eval m (expr_view c.args.value.now) k) (c.in_ok-keys.ensures.value m h) in
            let asks = c.in_ok-value.ensures.asks m (c.in_ok-keys.ensures.same m h)
            ∙ ap (λ (r : Reading Value). g.V.View.asked c.evaluate_keys.new.view ++ r.reads) ev in
            ran_after _ _ _ _ _ _ _ _ _ _ _ _ (c.in_ok-keys.ensures.asks m h) (c.in_ok-keys.ensures.reads m h)
            (ran_stop_after _ _ _ _ _ _ _ _ _ _ e (grew_all _ _ _ asks));
      };
    }

pub returns-in_err-add_group : goal.returns-in_err-add_group
returns-in_err-add_group g c =
    let e : c.from_residual-in_err-add_group.result ≡ Err c.in_err-add_group.field-0.0 = search rules in
    record {
      value = λ m h. stopped_value _ _ _ e;
      composed = record {
        keeps = g.met.V.View.keeps_on _ _ _ c.in_ok-keys.ensures.keeps c.in_ok-value.ensures.keeps;
        same = λ m h. c.in_ok-value.ensures.same m (c.in_ok-keys.ensures.same m h);
        same_scope = stopped _ _ _ e;
        longer = stopped _ _ _ e;
        fits = stopped _ _ _ e;
        ran = λ m h.
            let ev = ap (λ (k : List Binding). eval m (expr_view c.args.value.now) k) (c.in_ok-keys.ensures.value m h) in
            let asks = c.in_ok-value.ensures.asks m (c.in_ok-keys.ensures.same m h)
            ∙ ap (λ (r : Reading Value). g.V.View.asked c.evaluate_keys.new.view ++ r.reads) ev in
            let reads = c.in_ok-value.ensures.reads m (c.in_ok-keys.ensures.same m h)
            ∙ ap (λ (r : Reading Value). c.evaluate_keys.new.reads ++ r.reads) ev in
            ran_after _ _ _ _ _ _ _ _ _ _ _ _ (c.in_ok-keys.ensures.asks m h) (c.in_ok-keys.ensures.reads m h)
            (ran_after _ _ _ _ _ _ _ _ _ _ _ _ asks reads (ran_full _ _ _ _ _ _ _ _ _ _ _ (search rules) (search rules)));
      };
    }

pub returns : goal.returns
returns g c =
    record {
      value = λ m h. c.in_ok-value.ensures.value m (c.in_ok-keys.ensures.same m h)
          ∙ ap (λ (k : List Binding). (eval m (expr_view c.args.value.now) k).value) (c.in_ok-keys.ensures.value m h);
      composed = record {
        keeps = g.met.V.View.keeps_on _ _ _ c.in_ok-keys.ensures.keeps c.in_ok-value.ensures.keeps;
        same = λ m h. c.in_ok-value.ensures.same m (c.in_ok-keys.ensures.same m h);
        same_scope = refl;
        longer = omega (
          arith,
          ap length c.in_ok-add_group.ensures.added,
          length-append c.args.made.now.groups (c.group.result ∷ []),
        );
        fits = c.in_ok-add_group.ensures.fits;
        ran = λ m h.
            let ev = ap (λ (k : List Binding). eval m (expr_view c.args.value.now) k) (c.in_ok-keys.ensures.value m h) in
            let asks = c.in_ok-value.ensures.asks m (c.in_ok-keys.ensures.same m h)
            ∙ ap (λ (r : Reading Value). g.V.View.asked c.evaluate_keys.new.view ++ r.reads) ev in
            let reads = c.in_ok-value.ensures.reads m (c.in_ok-keys.ensures.same m h)
            ∙ ap (λ (r : Reading Value). c.evaluate_keys.new.reads ++ r.reads) ev in
            let value = c.in_ok-value.ensures.value m (c.in_ok-keys.ensures.same m h)
            ∙ ap (λ (r : Reading Value). r.value) ev in
            let made = c.group.ensures ∙ ap (λ (k : List Value). flat_group c.args.level.now.depth c.args.site 0
            (what.Cell k c.in_ok-copy.copy) [])
            (c.in_ok-keys-2.ensures ∙ ap (λ (k : List Binding). map (λ b. b.value) k) (c.in_ok-keys.ensures.value m h))
            ∙ ap (λ (v : Value). flat_group c.args.level.now.depth c.args.site 0
            (what.Cell (map (λ b. b.value) (eval_named m (nameds_view c.args.keys.now) c.args.made.now.scope).value) v) [])
            (c.in_ok-copy.ensures.same ∙ value) in
            let added = c.in_ok-add_group.ensures.added ∙ ap (λ (x : _). c.args.made.now.groups ++ x ∷ []) made in
            ran_after _ _ _ _ _ _ _ _ _ _ _ _ (c.in_ok-keys.ensures.asks m h) (c.in_ok-keys.ensures.reads m h)
            (ran_after _ _ _ _ _ _ _ _ _ _ _ _ asks reads (ran_added _ _ _ _ _ _ _ _ refl refl added (λ x. cc)));
      };
    }
