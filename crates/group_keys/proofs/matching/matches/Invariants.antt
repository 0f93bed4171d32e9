use Rattle.std.proofs.Common.{◌-◌, length}
use Rattle.group_keys.specs.Queues.{queue_of}
use Rattle.group_keys.proofs.Matched.{MatchesSoFar}
use Rattle.group_keys.proofs.matching.matches.Given as goal

abbrev pub invariant-loop-at : goal.invariant-loop-at
invariant-loop-at l = MatchesSoFar l.old l.new (λ s. queue_of l.queues s) l.all.items l.at

abbrev pub decreases-loop-at : goal.decreases-loop-at
decreases-loop-at l = length l.new - l.at
