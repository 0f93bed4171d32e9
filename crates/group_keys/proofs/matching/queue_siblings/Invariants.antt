use Rattle.std.proofs.Common.{◌≡◌, ◌++◌, ◌-◌, drop, length}
use Rattle.rt_groups.specs.Paths.{GroupKey}
use Rattle.group_keys.specs.Queues.{queue_of, indexes_of}
use Rattle.group_keys.proofs.matching.queue_siblings.Given as goal

abbrev pub invariant-loop-at : goal.invariant-loop-at
invariant-loop-at l = (s : GroupKey) → queue_of l.queues s ++ indexes_of l.at (drop l.at l.old) s ≡ indexes_of 0 l.old s

abbrev pub decreases-loop-at : goal.decreases-loop-at
decreases-loop-at l = length l.old - l.at
