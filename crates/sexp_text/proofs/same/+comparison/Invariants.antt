use Rattle.std.proofs.Common.{◌≡◌, drop}
use Rattle.sexp_text.specs.View.{forest_view}
use Rattle.sexp_text.specs.Same.{same_forest}
use Rattle.sexp_text.proofs.same.+comparison.Given as goal

abbrev pub invariant-are_same_trees-loop-tree : goal.invariant-are_same_trees-loop-tree
invariant-are_same_trees-loop-tree l = same_forest (forest_view (drop l.tree-index l.left)) (forest_view l.rest)
    ≡ same_forest (forest_view l.left) (forest_view l.right)
