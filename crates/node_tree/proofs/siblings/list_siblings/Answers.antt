use Rattle.std.proofs.Common.{◌+◌, ap}
use Rattle.node_tree.specs.FlatNodes.{flat_node}
use Rattle.node_tree.specs.Calls.{attribute_of}
use Rattle.std.proofs.Common.{map}
use Rattle.node_tree.specs.SiblingLists.{sibling_list}
use Rattle.node_tree.proofs.NextSiblings.{one_more}
use Rattle.node_tree.proofs.siblings.list_siblings.Goals as goal

pub loop-at-preserved : goal.loop-at-preserved
loop-at-preserved c =
    one_more c.args.nodes.now c.index-nodes-at.result
    (flat_node c.node.inside.inner c.node.inside.number c.node.inside.kind.now
    (map attribute_of c.node.inside.attributes.now))
    c.loop-at.at (c.loop-at.at + 1 + c.min.result) c.loop-at.siblings.items c.push.new.self.items
    (sibling_list 0 0 c.args.nodes.now)
    c.loop-at-test.true c.index-nodes-at.is c.node.view_is
    (ap (λ n. c.loop-at.at + 1 + n) c.min.ensures) c.in_ok-push.ensures.items c.loop-at.invariant.0
