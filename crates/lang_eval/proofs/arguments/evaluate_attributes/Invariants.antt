use Rattle.std.proofs.Common.{map}
use Rattle.rt_values.specs.Maps.{Map}
use Rattle.rt_groups.specs.PreorderGroups.{flat_attribute}
use Rattle.lang_ast.specs.ResultsWithReads.{mapped_reading}
use Rattle.lang_ast.specs.Evaluation.{eval_named}
use Rattle.lang_ast.specs.SyntaxView.{nameds_view}
use Rattle.compose_model.specs.Composing.{attribute}
use Rattle.lang_eval.proofs.NotedReads.{NotingProgress, named_from}
use Rattle.lang_eval.proofs.arguments.evaluate_attributes.Given as goal

abbrev pub invariant-loop-named : goal.invariant-loop-named
invariant-loop-named g l = record {
  keeps : g.V.View.keeps l.initial.view l.view;
  same : (m : Map) → g.V.View.shows l.initial.view m → g.V.View.shows l.view m;
  going : (m : Map) → g.V.View.shows l.initial.view m
      → NotingProgress
      (named_from m (λ bs. map flat_attribute (map attribute bs)) l.all l.attributes l.named-index l.scope)
      (mapped_reading (λ bs. map flat_attribute (map attribute bs)) (eval_named m (nameds_view l.attributes) l.scope))
      (g.V.View.asked l.initial.view) (g.V.View.asked l.view) l.initial.reads l.reads;
}
