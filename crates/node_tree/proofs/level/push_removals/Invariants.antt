use Rattle.std.proofs.Common.{◌≡◌, ◌≤◌, ◌++◌, length, drop}
use Rattle.node_tree.specs.Placing.{joined_calls}
use Rattle.node_tree.specs.SiblingLists.{removals_at}
use Rattle.node_tree.proofs.level.push_removals.Given as goal

abbrev pub invariant-loop-index : goal.invariant-loop-index
invariant-loop-index l =
    (l.ops ≡ l.fn.ops ++ joined_calls (removals_at l.index (drop l.index l.counts))) × (l.index ≤ length l.counts)

abbrev pub decreases-loop-index : goal.decreases-loop-index
decreases-loop-index l = l.index
