use Rattle.std.proofs.Common.{ℕ, ◌++◌, ◌∷◌, [], List, IsErr, refl, ap, ◌∙◌}
use Rattle.lang_ast.specs.declared.binding.Binding.{Binding}
use Rattle.lang_ast.specs.Evaluation.{new_binding, eval_named}
use Rattle.lang_ast.specs.SyntaxView.{nameds_view}
use Rattle.lang_eval.proofs.Grows.{grew_all}
use Rattle.lang_eval.proofs.Evaluating.{progress_first}
use Rattle.lang_eval.proofs.NotedReads.{noting_clauses, named_from, named_more, named_stop, named_done}
use Rattle.lang_eval.proofs.arguments.evaluate_keys.Goals as goal

pub loop-key-init : goal.loop-key-init
loop-key-init g c = record {
  keeps = g.met.V.View.keeps_itself _;
  same = λ m h. h;
  going = λ m h. progress_first _ _ _ _ _ (ap (λ (l : List Binding). named_from m (λ bs. bs) l c.args.keys.now 0
      c.args.scope.now) c.clear.ensures);
}

pub loop-key-preserved : goal.loop-key-preserved
loop-key-preserved g c = record {
  keeps = g.met.V.View.keeps_on _ _ _ c.loop-key.invariant.keeps c.in_ok-value.ensures.keeps;
  same = λ m h. c.in_ok-value.ensures.same m (c.loop-key.invariant.same m h);
  going = λ m h. let shown = c.loop-key.invariant.same m h in
      named_more m (λ bs. bs) (λ b. b) c.loop-key.env _ c.args.keys.now c.loop-key.key-index c.key-item.result
      c.in_ok-value.value c.args.scope.now _ _ _ _ _ _ _ (λ b bs. refl) c.loop-key-test.true c.key-item.is
      (c.loop-key.invariant.going m h) (c.in_ok-value.ensures.value m shown) (c.in_ok-value.ensures.asks m shown)
      (c.in_ok-value.ensures.reads m shown)
      (c.in_ok-push.ensures.ok
      ∙ ap (λ (l : List ℕ). c.loop-key.env ++ new_binding l c.in_ok-value.value ∷ []) c.in_ok-copy.ensures);
}

pub returns-in_err-value : goal.returns-in_err-value
returns-in_err-value g c =
    let err : IsErr c.from_residual.result = c.from_residual.ensures.0 in
    noting_clauses (g.V.View.shows c.args.view.now) (λ m. eval_named m (nameds_view c.args.keys.now) c.args.scope.now)
    _ _ _ _ _ (g.met.V.View.keeps_on _ _ _ c.loop-key.invariant.keeps c.in_err-value.ensures.keeps)
    (λ m h. c.in_err-value.ensures.same m (c.loop-key.invariant.same m h))
    (λ m h. named_stop m (λ bs. bs) (λ b. b) c.loop-key.env c.args.keys.now c.loop-key.key-index c.key-item.result
    c.args.scope.now _ _ _ _ _ _ _ _ (λ b bs. refl) c.loop-key-test.true c.key-item.is (c.loop-key.invariant.going m h)
    (c.in_err-value.ensures.part m (c.loop-key.invariant.same m h)) err)

pub returns-in_err-copy : goal.returns-in_err-copy
returns-in_err-copy g c =
    let err : IsErr c.from_residual-in_err-copy.result = c.from_residual-in_err-copy.ensures.0 in
    noting_clauses (g.V.View.shows c.args.view.now) (λ m. eval_named m (nameds_view c.args.keys.now) c.args.scope.now)
    _ _ _ _ _ (g.met.V.View.keeps_on _ _ _ c.loop-key.invariant.keeps c.in_ok-value.ensures.keeps)
    (λ m h. c.in_ok-value.ensures.same m (c.loop-key.invariant.same m h))
    (λ m h. named_stop m (λ bs. bs) (λ b. b) c.loop-key.env c.args.keys.now c.loop-key.key-index c.key-item.result
    c.args.scope.now _ _ _ _ _ _ _ _ (λ b bs. refl) c.loop-key-test.true c.key-item.is (c.loop-key.invariant.going m h)
    (grew_all _ _ _ (c.in_ok-value.ensures.asks m (c.loop-key.invariant.same m h))) err)

pub returns-in_err-push : goal.returns-in_err-push
returns-in_err-push g c =
    let err : IsErr c.from_residual-in_err-push.result = c.from_residual-in_err-push.ensures.0 in
    noting_clauses (g.V.View.shows c.args.view.now) (λ m. eval_named m (nameds_view c.args.keys.now) c.args.scope.now)
    _ _ _ _ _ (g.met.V.View.keeps_on _ _ _ c.loop-key.invariant.keeps c.in_ok-value.ensures.keeps)
    (λ m h. c.in_ok-value.ensures.same m (c.loop-key.invariant.same m h))
    (λ m h. named_stop m (λ bs. bs) (λ b. b) c.loop-key.env c.args.keys.now c.loop-key.key-index c.key-item.result
    c.args.scope.now _ _ _ _ _ _ _ _ (λ b bs. refl) c.loop-key-test.true c.key-item.is (c.loop-key.invariant.going m h)
    (grew_all _ _ _ (c.in_ok-value.ensures.asks m (c.loop-key.invariant.same m h))) err)

pub returns : goal.returns
returns g c = noting_clauses {E = ⊥} (g.V.View.shows c.args.view.now)
    (λ m. eval_named m (nameds_view c.args.keys.now) c.args.scope.now) _ _ _ _ _ c.loop-key.invariant.keeps
    c.loop-key.invariant.same
    (λ m h. named_done m (λ bs. bs) c.loop-key.env c.args.keys.now c.loop-key.key-index c.args.scope.now _ _ _ _ _ refl
    c.loop-key-test.false (c.loop-key.invariant.going m h))
