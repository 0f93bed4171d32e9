use Rattle.std.proofs.Common.{◌≡◌, drop}
use Rattle.lang_ast.specs.SyntaxView.{functions_view}
use Rattle.lang_limits.specs.LeastOffset.{least_offset_from}
use Rattle.lang_ast.specs.Sizes.{functions_sizes}
use Rattle.lang_limits.proofs.sizes.measure_functions.Given as goal

abbrev pub invariant-loop-one : goal.invariant-loop-one
invariant-loop-one l = least_offset_from l.least (functions_sizes (functions_view (drop l.one-index l.all)))
    ≡ least_offset_from l.initial.least (functions_sizes (functions_view l.all))
