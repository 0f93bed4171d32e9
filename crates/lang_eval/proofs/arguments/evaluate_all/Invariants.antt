use Rattle.std.proofs.Common.{◌++◌}
use Rattle.rt_values.specs.Maps.{Map}
use Rattle.lang_ast.specs.Evaluation.{eval_all}
use Rattle.lang_ast.specs.SyntaxView.{exprs_view}
use Rattle.lang_eval.proofs.Evaluating.{operands_from}
use Rattle.lang_eval.proofs.NotedReads.{NotingProgress}
use Rattle.lang_eval.proofs.arguments.evaluate_all.Given as goal

abbrev pub invariant-loop-expression : goal.invariant-loop-expression
invariant-loop-expression g l = record {
  keeps : g.V.View.keeps l.initial.view l.view;
  same : (m : Map) → g.V.View.shows l.initial.view m → g.V.View.shows l.view m;
  going : (m : Map) → g.V.View.shows l.initial.view m
      → NotingProgress (operands_from m (λ vs. l.values ++ vs) l.expressions l.expression-index l.scope)
      (eval_all m (exprs_view l.expressions) l.scope) (g.V.View.asked l.initial.view) (g.V.View.asked l.view)
      l.initial.reads l.reads;
}
