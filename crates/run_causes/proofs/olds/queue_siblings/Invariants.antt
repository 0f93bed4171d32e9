use Rattle.std.proofs.Common.{◌≡◌, ◌++◌, ◌-◌, ℕ, length}
use Rattle.rt_groups.specs.GroupForest.{GroupForest}
use Rattle.rt_groups.specs.Paths.{GroupKey}
use Rattle.group_keys.specs.Queues.{queue_of}
use Rattle.run_causes.specs.OldMatches.{AreSiblings, IsBelow, key_indexes}
use Rattle.run_causes.proofs.olds.queue_siblings.Given as goal

-- The siblings from the next one on, and the queues with those before it.
abbrev pub invariant-loop-i : goal.invariant-loop-i
invariant-loop-i l =
    ((depth : ℕ) (t : GroupForest) → AreSiblings l.table.groups depth l.from l.to t
    → (u : GroupForest) × AreSiblings l.table.groups depth l.i l.to u
    × ((s : GroupKey) → queue_of l.queues s ++ key_indexes s l.i u ≡ key_indexes s l.from t))
    × IsBelow (length l.table.groups) (queue_of l.queues)

abbrev pub decreases-loop-i : goal.decreases-loop-i
decreases-loop-i l = l.to - l.i
