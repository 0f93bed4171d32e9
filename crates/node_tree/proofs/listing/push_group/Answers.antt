use Rattle.node_tree.proofs.listing.push_group.Goals as goal

pub returns : goal.returns
returns c = rw (← c.count_inside.ensures) c.push_node.ensures
