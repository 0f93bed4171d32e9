use Rattle.std.proofs.Common.{◌≡◌, ◌≤◌, take}
use Rattle.node_tree.specs.Counting.{total}
use Rattle.node_tree.specs.SiblingLists.{kept_counts}
use Rattle.node_tree.proofs.siblings.count_found.Given as goal

abbrev pub invariant-loop-sibling : goal.invariant-loop-sibling
invariant-loop-sibling l =
    (l.counts.items ≡ kept_counts l.new (take l.sibling-index l.old)) × (total l.counts.items ≤ l.sibling-index)
