use Rattle.std.proofs.Common.{ap, sym}
use Rattle.node_tree.specs.StoredTree.{StoredTree}
use Rattle.node_tree.proofs.ListedNodes.{children_listed}
use Rattle.node_tree.proofs.tree.NodeTree.list.Goals as goal

-- src/tree.rt:73:5
pub returns : goal.returns
returns c t children =
    children_listed c.args.self.now.children c.self.inside.children t c.new-nodes.result.items c.push_nodes.new.nodes.items
    c.new-nodes.ensures.items c.in_ok-push_nodes.ensures
    (ap (λ (s : StoredTree). s.children) (sym c.self.view_is)) children
