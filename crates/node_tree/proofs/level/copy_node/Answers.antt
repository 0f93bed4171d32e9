use Rattle.node_tree.proofs.CopiedNodes.{copied_node}
use Rattle.node_tree.proofs.level.copy_node.Goals as goal

pub returns : goal.returns
returns c =
    copied_node c.args.node.now c.node.inside.inner c.node.inside.number c.node.inside.kind.now c.in_ok-copy.field-0
    c.node.inside.attributes.now c.in_ok-copy_attributes.field-0
    c.node.view_is c.in_ok-copy.ensures c.in_ok-copy_attributes.ensures
