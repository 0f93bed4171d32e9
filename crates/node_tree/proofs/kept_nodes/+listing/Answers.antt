use Rattle.std.proofs.Common.{map, ap, ◌∙◌, ◌++◌, List, slice_set}
use Rattle.node_tree.specs.Calls.{attribute_of}
use Rattle.node_tree.specs.FlatNodes.{FlatNode, flat_nodes}
use Rattle.node_tree.specs.KeptNodes.{KeptValue, nodes_kept}
use Rattle.node_tree.proofs.ListedNodes.{listed, node_listed, next_listed, all_listed}
use Rattle.node_tree.proofs.kept_nodes.+listing.Goals as goal

-- src/kept_nodes.rt:25:1
pub push_node-returns : goal.push_node-returns
push_node-returns t c =
    ap (λ (n : FlatNode). slice_set c.push_nodes.new.nodes.items c.len-at.result n) c.node_ref-2.ensures
    ∙ node_listed c.args.nodes.now.items c.push.new.self.items c.push_nodes.new.nodes.items
    (flat_nodes (nodes_kept c.args.node.now.children)) c.len-at.result c.len.result c.args.node.now.number
    c.args.node.now.kind (map attribute_of c.args.node.now.attributes) c.node_ref.result c.in_ok-push.ensures.items
    (c.in_ok-push_nodes.ensures
    ∙ ap (λ (k : KeptValue). c.push.new.self.items ++ flat_nodes (nodes_kept k.children)) c.node.view_is)
    (c.len-at.ensures ∙ c.args.nodes.now.ok.0) (c.len.ensures ∙ c.push_nodes.new.nodes.ok.0)

-- src/kept_nodes.rt:45:5
pub push_nodes-loop-node-init : goal.push_nodes-loop-node-init
push_nodes-loop-node-init t c =
    ap (λ (ks : List KeptValue). c.args.nodes.now.items ++ listed ks) c.into_iter-node-iterator.ensures.into_iter_gives.0

-- src/kept_nodes.rt:45:5
pub push_nodes-loop-node-preserved : goal.push_nodes-loop-node-preserved
push_nodes-loop-node-preserved t c =
    next_listed c.loop-node.nodes.items c.push_node.new.nodes.items _ c.in-Some.node.now c.loop-node.node-iterator
    c.next.new.self c.in-Some.ensures.steps c.loop-node.invariant c.in_ok-push_node.ensures

-- src/kept_nodes.rt:38:1
pub push_nodes-returns : goal.push_nodes-returns
push_nodes-returns t c =
    all_listed c.loop-node.nodes.items _ c.loop-node.node-iterator c.in-None.ensures.steps.0 c.loop-node.invariant
