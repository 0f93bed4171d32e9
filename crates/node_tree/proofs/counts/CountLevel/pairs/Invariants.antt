use Rattle.std.proofs.Common.{◌≡◌, ◌≤◌, ◌++◌, length}
use Rattle.node_tree.specs.Counting.{total, pairs}
use Rattle.node_tree.proofs.counts.CountLevel.pairs.Given as goal

abbrev pub invariant-loop-first : goal.invariant-loop-first
invariant-loop-first l = (l.counts.items ++ pairs l.rest ≡ pairs l.initial.rest) × (total l.rest ≤ total l.initial.rest)

abbrev pub decreases-loop-first : goal.decreases-loop-first
decreases-loop-first l = length l.rest
