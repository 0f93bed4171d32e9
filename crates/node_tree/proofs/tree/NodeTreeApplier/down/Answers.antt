use Rattle.std.proofs.Common.{ap, ◌∙◌, Some}
use Rattle.node_tree.specs.NodeTrees.{CursorTree}
use Rattle.node_tree.specs.StoredTree.{StoredTree, cursor_tree}
use Rattle.node_tree.proofs.TreeSteps.{down_is}
use Rattle.node_tree.proofs.tree.NodeTreeApplier.down.Goals as goal

pub returns-clause-tree : goal.returns-clause-tree
returns-clause-tree c =
    ap (λ (s : StoredTree). Some (cursor_tree s)) c.open_child.ensures
    ∙ ap (λ (t : CursorTree). Some t) (down_is c.args.index c.args.self.now)
