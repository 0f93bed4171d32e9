use Rattle.std.proofs.Common.{◌≡◌, ◌++◌, drop}
use Rattle.lang_ast.specs.SyntaxView.{exprs_view}
use Rattle.lang_checks.specs.FaultOrder.{least_fault_from}
use Rattle.lang_checks.specs.Expressions.{types_of, exprs_faults}
use Rattle.lang_checks.specs.Views.{expression_scope_view}
use Rattle.lang_checks.proofs.expression.+types.Given as goal

abbrev pub invariant-infer_expressions-loop-e : goal.invariant-infer_expressions-loop-e
invariant-infer_expressions-loop-e l = record {
  types : l.types.items ++ types_of (expression_scope_view l.look) (exprs_view (drop l.e-index l.es))
      ≡ types_of (expression_scope_view l.look) (exprs_view l.es);
  least : least_fault_from l.least (exprs_faults (expression_scope_view l.look) (exprs_view (drop l.e-index l.es)))
      ≡ least_fault_from l.initial.least (exprs_faults (expression_scope_view l.look) (exprs_view l.es));
}
