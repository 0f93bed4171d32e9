use Rattle.std.proofs.Common.{◌∙◌, sym}
use Rattle.sexp_text.proofs.Sames.{past}
use Rattle.sexp_text.proofs.same.+comparison.Goals as goal

pub are_same_trees-returns : goal.are_same_trees-returns
are_same_trees-returns t c = c.is_empty.ensures
    ∙ sym (past c.args.left.now c.loop-tree.rest.now c.loop-tree.tree-index c.loop-tree-test.false)
    ∙ c.loop-tree.invariant
