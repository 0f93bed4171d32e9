use Rattle.std.proofs.Common.{◌≡◌, drop}
use Rattle.sexp_text.specs.View.{forest_view}
use Rattle.lang_limits.specs.LeastOffset.{least_offset_from}
use Rattle.lang_limits.specs.Tokens.{oversized_offsets}
use Rattle.lang_limits.proofs.tokens.+tokens.Given as goal

abbrev pub invariant-trees_limit-loop-tree : goal.invariant-trees_limit-loop-tree
invariant-trees_limit-loop-tree l =
    least_offset_from l.least (oversized_offsets (forest_view (drop l.tree-index l.trees)))
    ≡ least_offset_from l.initial.least (oversized_offsets (forest_view l.trees))
