use Rattle.std.proofs.Common.{◌≡◌, ◌≤◌, ◌-◌, ◌++◌, length, drop}
use Rattle.node_tree.specs.SiblingLists.{sibling_list}
use Rattle.node_tree.proofs.siblings.list_siblings.Given as goal

abbrev pub invariant-loop-at : goal.invariant-loop-at
invariant-loop-at l = (l.siblings.items ++ sibling_list 0 l.at (drop l.at l.nodes) ≡ sibling_list 0 0 l.nodes)
    × (l.at ≤ length l.nodes)

abbrev pub decreases-loop-at : goal.decreases-loop-at
decreases-loop-at l = length l.nodes - l.at
