use Rattle.std.proofs.Common.{◌≡◌, ◌++◌, ◌-◌, drop, take, map, length}
use Rattle.slot_anchors.specs.Anchors.{index_after_edit}
use Rattle.slot_anchors.proofs.follow_all.Given as goal

abbrev pub invariant-loop-at : goal.invariant-loop-at
invariant-loop-at l = l.indexes ≡ map (λ p. index_after_edit l.olds p) (take l.at l.initial.indexes)
    ++ drop l.at l.initial.indexes

abbrev pub decreases-loop-at : goal.decreases-loop-at
decreases-loop-at l = length l.indexes - l.at
