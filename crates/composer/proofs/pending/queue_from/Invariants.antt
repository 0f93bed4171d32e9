use Rattle.std.proofs.Common.{◌≡◌, ◌++◌, ◌-◌, drop, length}
use Rattle.rt_groups.specs.Paths.{GroupKey}
use Rattle.group_keys.specs.Queues.{queue_of}
use Rattle.composer.specs.OldSiblings.{level_indexes}
use Rattle.composer.proofs.pending.queue_from.Given as goal

abbrev pub invariant-loop-alloc : goal.invariant-loop-alloc
invariant-loop-alloc l = (s : GroupKey)
    → queue_of l.queues s ++ level_indexes s l.depth l.at (drop l.at l.table.groups)
    ≡ level_indexes s l.depth l.next (drop l.next l.table.groups)

abbrev pub decreases-loop-alloc : goal.decreases-loop-alloc
decreases-loop-alloc l = length l.table.groups - l.at
