use Rattle.std.proofs.Common.{ap, ◌∙◌, Some}
use Rattle.node_tree.specs.NodeTrees.{CursorTree}
use Rattle.node_tree.specs.StoredTree.{StoredTree, cursor_tree}
use Rattle.node_tree.proofs.TreeSteps.{up_is}
use Rattle.node_tree.proofs.tree.NodeTreeApplier.up.Goals as goal

pub returns-clause-tree : goal.returns-clause-tree
returns-clause-tree c =
    ap (λ (s : StoredTree). Some (cursor_tree s)) c.close_current.ensures
    ∙ ap (λ (t : CursorTree). Some t) (up_is c.args.self.now.children c.args.self.now.open_nodes c.args.self.now.spare)
