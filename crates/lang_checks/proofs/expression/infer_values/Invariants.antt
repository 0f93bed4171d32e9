use Rattle.std.proofs.Common.{◌≡◌, ◌++◌, drop}
use Rattle.lang_ast.specs.SyntaxView.{nameds_view}
use Rattle.lang_checks.specs.FaultOrder.{least_fault_from}
use Rattle.lang_checks.specs.Expressions.{values_faults, typed_names}
use Rattle.lang_checks.specs.Views.{expression_scope_view}
use Rattle.lang_checks.proofs.expression.infer_values.Given as goal

abbrev pub invariant-loop-named : goal.invariant-loop-named
invariant-loop-named l = record {
  typed_names : l.into ++ typed_names (expression_scope_view l.look) (nameds_view (drop l.named-index l.all))
      ≡ typed_names (expression_scope_view l.look) (nameds_view l.all);
  least : least_fault_from l.least
      (values_faults (expression_scope_view l.look) (nameds_view (drop l.named-index l.all)))
      ≡ least_fault_from l.initial.least (values_faults (expression_scope_view l.look) (nameds_view l.all));
}
