use Rattle.std.proofs.Common.{◌≡◌, drop}
use Rattle.sexp_text.specs.Forest.{joined_trees}
use Rattle.sexp_text.specs.View.{forest_view}
use Rattle.lang_limits.specs.Clamped.{clamped_trees}
use Rattle.lang_limits.proofs.clamping.+copies.Given as goal

abbrev pub invariant-clamped_trees-loop-tree : goal.invariant-clamped_trees-loop-tree
invariant-clamped_trees-loop-tree l =
    joined_trees (forest_view l.out.items) (clamped_trees (forest_view (drop l.tree-index l.trees)))
    ≡ clamped_trees (forest_view l.trees)
