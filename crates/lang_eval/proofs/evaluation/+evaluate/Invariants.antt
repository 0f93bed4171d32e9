use Rattle.std.proofs.Common.{take, map}
use Rattle.rt_values.specs.Limits.{most_items}
use Rattle.rt_values.specs.Operators.{number_of}
use Rattle.rt_values.specs.Maps.{Map}
use Rattle.lang_ast.specs.ResultsWithReads.{mapped_reading}
use Rattle.lang_ast.specs.Evaluation.{eval_all, first, second}
use Rattle.lang_ast.specs.SyntaxView.{exprs_view}
use Rattle.lang_eval.specs.EvaluatesReading.{EvaluationProgress}
use Rattle.lang_eval.specs.Operands.{pair, pair_from, list_with_all}
use Rattle.lang_eval.proofs.Evaluating.{operands_from}
use Rattle.lang_eval.proofs.evaluation.+evaluate.Given as goal

abbrev pub invariant-eval_pair-loop-place : goal.invariant-eval_pair-loop-place
invariant-eval_pair-loop-place g l = record {
  keeps : g.V.View.keeps l.initial.view l.view;
  same : (m : Map) → g.V.View.shows l.initial.view m → g.V.View.shows l.view m;
  going : (m : Map) → g.V.View.shows l.initial.view m
      → EvaluationProgress (operands_from m (pair_from l.pair l.place) l.operands l.place l.scope)
      (mapped_reading (λ vs. pair (first vs) (second vs)) (eval_all m (exprs_view l.operands) l.scope)) l.is_noting
      (g.V.View.asked l.initial.view) (g.V.View.asked l.view) l.initial.reads l.reads;
}

abbrev pub invariant-eval_numbers-loop-expression : goal.invariant-eval_numbers-loop-expression
invariant-eval_numbers-loop-expression g l = record {
  keeps : g.V.View.keeps l.initial.view l.view;
  same : (m : Map) → g.V.View.shows l.initial.view m → g.V.View.shows l.view m;
  going : (m : Map) → g.V.View.shows l.initial.view m
      → EvaluationProgress (operands_from m (λ vs. list_with_all l.list (map number_of vs)) l.operands l.expression-index
      l.scope)
      (mapped_reading (λ vs. take most_items (map number_of vs)) (eval_all m (exprs_view l.operands) l.scope))
      l.is_noting (g.V.View.asked l.initial.view) (g.V.View.asked l.view) l.initial.reads l.reads;
}
