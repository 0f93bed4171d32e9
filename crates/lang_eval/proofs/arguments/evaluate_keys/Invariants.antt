use Rattle.rt_values.specs.Maps.{Map}
use Rattle.lang_ast.specs.Evaluation.{eval_named}
use Rattle.lang_ast.specs.SyntaxView.{nameds_view}
use Rattle.lang_eval.proofs.NotedReads.{NotingProgress, named_from}
use Rattle.lang_eval.proofs.arguments.evaluate_keys.Given as goal

abbrev pub invariant-loop-key : goal.invariant-loop-key
invariant-loop-key g l = record {
  keeps : g.V.View.keeps l.initial.view l.view;
  same : (m : Map) → g.V.View.shows l.initial.view m → g.V.View.shows l.view m;
  going : (m : Map) → g.V.View.shows l.initial.view m
      → NotingProgress (named_from m (λ bs. bs) l.env l.keys l.key-index l.scope)
      (eval_named m (nameds_view l.keys) l.scope) (g.V.View.asked l.initial.view) (g.V.View.asked l.view)
      l.initial.reads l.reads;
}
