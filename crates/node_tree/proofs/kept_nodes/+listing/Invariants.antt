use Rattle.std.proofs.Common.{◌≡◌, ◌++◌}
use Rattle.node_tree.specs.FlatNodes.{flat_nodes}
use Rattle.node_tree.specs.KeptNodes.{kept_of, nodes_kept}
use Rattle.node_tree.proofs.kept_nodes.+listing.Given as goal

abbrev pub invariant-push_nodes-loop-node : goal.invariant-push_nodes-loop-node
invariant-push_nodes-loop-node l =
    l.nodes.items ++ flat_nodes (nodes_kept (kept_of l.node-iterator))
    ≡ l.fn.nodes.items ++ flat_nodes (nodes_kept (kept_of l.fn.list))
