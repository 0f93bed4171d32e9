use Rattle.std.proofs.Common.{ℕ, ◌≡◌, ◌≤◌, ◌<◌, ◌-◌, length, slice_index_or}
use Rattle.slot_table.proofs.changes.find_place.Given as goal

abbrev pub invariant-loop-low : goal.invariant-loop-low
invariant-loop-low l = (l.high ≤ length l.places)
    × ((i : ℕ) → i < length l.places → slice_index_or l.places i 0 ≡ l.place → (l.low ≤ i) × (i < l.high))

abbrev pub decreases-loop-low : goal.decreases-loop-low
decreases-loop-low l = l.high - l.low
