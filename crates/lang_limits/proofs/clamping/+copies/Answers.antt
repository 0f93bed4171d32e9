use Rattle.std.proofs.Common.{◌∙◌, List, sym, ap}
use Rattle.std.proofs.lemmas.List.{drop_all}
use Rattle.sexp_text.specs.Forest.{joined_trees}
use Rattle.sexp_text.specs.View.{forest_view}
use Rattle.sexp_text.specs.declared.tree.Tree.{Tree}
use Rattle.sexp_text.proofs.Trees.{joined_trees-empty}
use Rattle.lang_limits.specs.Clamped.{clamped_trees}
use Rattle.lang_limits.proofs.clamping.+copies.Goals as goal

pub clamped_trees-returns : goal.clamped_trees-returns
clamped_trees-returns t c =
    let out = forest_view c.loop-tree.out.items in
    sym (joined_trees-empty out)
    ∙ ap (λ (ts : List Tree). joined_trees out (clamped_trees (forest_view ts)))
    (sym (drop_all c.loop-tree.tree-index c.args.trees.now c.loop-tree-test.false))
    ∙ c.loop-tree.invariant
