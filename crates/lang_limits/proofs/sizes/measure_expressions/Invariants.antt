use Rattle.std.proofs.Common.{◌≡◌, drop}
use Rattle.lang_ast.specs.SyntaxView.{exprs_view}
use Rattle.lang_limits.specs.LeastOffset.{least_offset_from}
use Rattle.lang_ast.specs.Sizes.{exprs_sizes}
use Rattle.lang_limits.proofs.sizes.measure_expressions.Given as goal

abbrev pub invariant-loop-e : goal.invariant-loop-e
invariant-loop-e l = least_offset_from l.least (exprs_sizes (exprs_view (drop l.e-index l.es)))
    ≡ least_offset_from l.initial.least (exprs_sizes (exprs_view l.es))
