use Rattle.std.proofs.Common.{◌≡◌, ◌++◌, drop}
use Rattle.node_tree.specs.NodeGroups.{nodes_among}
use Rattle.node_tree.proofs.listing.list_among.Given as goal

abbrev pub invariant-loop-at : goal.invariant-loop-at
invariant-loop-at l = l.nodes.items ++ nodes_among (drop l.at l.table.groups) ≡ nodes_among l.table.groups
