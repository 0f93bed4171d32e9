use Rattle.std.proofs.Common.{◌≡◌, ◌≤◌, drop, length}
use Rattle.node_tree.specs.NodeGroups.{later_counts}
use Rattle.node_tree.proofs.listing.count_later_nodes.Given as goal

abbrev pub invariant-loop-at : goal.invariant-loop-at
invariant-loop-at l =
    (l.at ≤ length l.table.groups) × (length l.counts.items ≡ length l.table.groups)
    × (drop l.at l.counts.items ≡ later_counts (drop l.at l.table.groups))

abbrev pub decreases-loop-at : goal.decreases-loop-at
decreases-loop-at l = l.at
