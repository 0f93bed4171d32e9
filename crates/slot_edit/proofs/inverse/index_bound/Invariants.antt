use Rattle.std.proofs.Common.{◌≡◌, ◌≤◌, ℕ, None, drop, length}
use Rattle.slot_anchors.specs.Anchors.{first_from}
use Rattle.slot_edit.proofs.inverse.index_bound.Given as goal

abbrev pub invariant-loop-at : goal.invariant-loop-at
invariant-loop-at l = (l.at ≤ length l.olds) × ((i : ℕ) → l.bound ≤ i → first_from l.at i (drop l.at l.olds) ≡ None)

abbrev pub decreases-loop-at : goal.decreases-loop-at
decreases-loop-at l = l.at
