use Rattle.node_tree.proofs.NodeGroups.{nodes_are_listed}
use Rattle.node_tree.proofs.listing.list_nodes.Goals as goal

pub returns : goal.returns
returns c = λ t e. nodes_are_listed c.skipping_leaves_the_siblings.ensures t c.args.table.now.groups _ e
    c.in_ok-list_among.ensures
