use Rattle.std.proofs.Common.{◌≡◌, ◌≤◌, ◌<◌, ℕ, None, drop, length, get_or}
use Rattle.slot_anchors.specs.Anchors.{first_from}
use Rattle.slot_edit.proofs.inverse.invert_below.Given as goal

abbrev pub invariant-loop-at : goal.invariant-loop-at
invariant-loop-at l = (l.at ≤ length l.olds) × (length l.news.items ≡ l.count)
    × ((i : ℕ) → i < l.count → get_or l.news.items i None ≡ first_from l.at i (drop l.at l.olds))

abbrev pub decreases-loop-at : goal.decreases-loop-at
decreases-loop-at l = l.at
