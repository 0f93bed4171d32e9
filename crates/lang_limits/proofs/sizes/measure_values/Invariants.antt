use Rattle.std.proofs.Common.{◌≡◌, drop}
use Rattle.lang_ast.specs.SyntaxView.{nameds_view}
use Rattle.lang_limits.specs.LeastOffset.{least_offset_from}
use Rattle.lang_ast.specs.Sizes.{named_sizes}
use Rattle.lang_limits.proofs.sizes.measure_values.Given as goal

abbrev pub invariant-loop-named : goal.invariant-loop-named
invariant-loop-named l = least_offset_from l.least (named_sizes (nameds_view (drop l.named-index l.all)))
    ≡ least_offset_from l.initial.least (named_sizes (nameds_view l.all))
