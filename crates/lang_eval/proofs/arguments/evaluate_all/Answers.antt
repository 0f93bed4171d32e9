use Rattle.std.proofs.Common.{List, ◌++◌, IsErr, ap, ◌∙◌, append_assoc}
use Rattle.rt_values.specs.declared.value.Value.{Value}
use Rattle.lang_ast.specs.Evaluation.{eval_all}
use Rattle.lang_ast.specs.SyntaxView.{exprs_view}
use Rattle.lang_eval.proofs.Grows.{grew_all}
use Rattle.lang_eval.proofs.Evaluating.{operands_from, progress_first, progress_more, progress_stop}
use Rattle.lang_eval.proofs.NotedReads.{noting_clauses, operands_done}
use Rattle.lang_eval.proofs.arguments.evaluate_all.Goals as goal

pub loop-expression-init : goal.loop-expression-init
loop-expression-init g c = record {
  keeps = g.met.V.View.keeps_itself _;
  same = λ m h. h;
  going = λ m h. progress_first _ _ _ _ _ (ap (λ (l : List Value).
      operands_from m (λ vs. l ++ vs) c.args.expressions.now 0 c.args.scope.now) c.clear.ensures);
}

pub loop-expression-preserved : goal.loop-expression-preserved
loop-expression-preserved g c = record {
  keeps = g.met.V.View.keeps_on _ _ _ c.loop-expression.invariant.keeps c.in_ok-eval_noting.ensures.keeps;
  same = λ m h. c.in_ok-eval_noting.ensures.same m (c.loop-expression.invariant.same m h);
  going = λ m h. let shown = c.loop-expression.invariant.same m h in
      progress_more m c.args.expressions.now c.loop-expression.expression-index c.expression-item.result
      c.args.scope.now (λ vs. c.loop-expression.values ++ vs) (λ vs. c.push.new.self ++ vs) _ _ _ _ _ _ _ _ _
      c.loop-expression-test.true c.expression-item.is (c.loop-expression.invariant.going m h)
      (c.in_ok-eval_noting.ensures.value m shown) (c.in_ok-eval_noting.ensures.asks m shown)
      (λ q. c.in_ok-eval_noting.ensures.reads m shown)
      (λ vs. ap (λ (l : List Value). l ++ vs) c.in_ok-push.ensures.ok ∙ append_assoc c.loop-expression.values _ vs);
}

pub returns-in_err-eval_noting : goal.returns-in_err-eval_noting
returns-in_err-eval_noting g c =
    let err : IsErr c.from_residual.result = c.from_residual.ensures.0 in
    noting_clauses (g.V.View.shows c.args.view.now)
    (λ m. eval_all m (exprs_view c.args.expressions.now) c.args.scope.now)
    _ _ _ _ _ (g.met.V.View.keeps_on _ _ _ c.loop-expression.invariant.keeps c.in_err-eval_noting.ensures.keeps)
    (λ m h. c.in_err-eval_noting.ensures.same m (c.loop-expression.invariant.same m h))
    (λ m h. progress_stop m c.args.expressions.now c.loop-expression.expression-index c.expression-item.result
    c.args.scope.now (λ vs. c.loop-expression.values ++ vs) (λ vs. vs) _ _ _ _ _ _ _ _ _ _ err
    c.loop-expression-test.true c.expression-item.is (c.loop-expression.invariant.going m h)
    (c.in_err-eval_noting.ensures.part m (c.loop-expression.invariant.same m h)) (λ q. cc))

pub returns-in_err-push : goal.returns-in_err-push
returns-in_err-push g c =
    let err : IsErr c.from_residual-in_err-push.result = c.from_residual-in_err-push.ensures.0 in
    noting_clauses (g.V.View.shows c.args.view.now)
    (λ m. eval_all m (exprs_view c.args.expressions.now) c.args.scope.now)
    _ _ _ _ _ (g.met.V.View.keeps_on _ _ _ c.loop-expression.invariant.keeps c.in_ok-eval_noting.ensures.keeps)
    (λ m h. c.in_ok-eval_noting.ensures.same m (c.loop-expression.invariant.same m h))
    (λ m h. progress_stop m c.args.expressions.now c.loop-expression.expression-index c.expression-item.result
    c.args.scope.now (λ vs. c.loop-expression.values ++ vs) (λ vs. vs) _ _ _ _ _ _ _ _ _ _ err
    c.loop-expression-test.true c.expression-item.is (c.loop-expression.invariant.going m h)
    (grew_all _ _ _ (c.in_ok-eval_noting.ensures.asks m (c.loop-expression.invariant.same m h))) (λ q. cc))

pub returns : goal.returns
returns g c = noting_clauses {E = ⊥} (g.V.View.shows c.args.view.now)
    (λ m. eval_all m (exprs_view c.args.expressions.now) c.args.scope.now) _ _ _ _ _
    c.loop-expression.invariant.keeps c.loop-expression.invariant.same
    (λ m h. operands_done m c.loop-expression.values c.args.expressions.now c.loop-expression.expression-index
    c.args.scope.now _ _ _ _ _ c.loop-expression-test.false (c.loop-expression.invariant.going m h))
