use Rattle.std.proofs.Common.{◌≡◌, drop}
use Rattle.lang_ast.specs.SyntaxView.{exprs_view}
use Rattle.lang_limits.specs.LeastOffset.{least_offset_from}
use Rattle.lang_ast.specs.Sizes.{exprs_lengths}
use Rattle.lang_limits.proofs.lengths.+lengths.Given as goal

abbrev pub invariant-measure_all_lengths-loop-e : goal.invariant-measure_all_lengths-loop-e
invariant-measure_all_lengths-loop-e l = least_offset_from l.least (exprs_lengths (exprs_view (drop l.e-index l.es)))
    ≡ least_offset_from l.initial.least (exprs_lengths (exprs_view l.es))
