use Rattle.std.proofs.Common.{◌≡◌, length}
use Rattle.sexp_text.specs.View.{forest_view}
use Rattle.lang_limits.specs.Clamped.{are_ints}
use Rattle.lang_limits.proofs.clamping.are_ints.Given as goal

abbrev pub invariant-loop-tree : goal.invariant-loop-tree
invariant-loop-tree l = are_ints (forest_view l.rest) ≡ are_ints (forest_view l.trees)

abbrev pub decreases-loop-tree : goal.decreases-loop-tree
decreases-loop-tree l = length l.rest
