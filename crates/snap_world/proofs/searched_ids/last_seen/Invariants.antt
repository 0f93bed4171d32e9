use Rattle.std.proofs.Common.{◌≡◌, length, ℕ, ◌<◌, ◌≤◌, false, slice_index_or}
use Rattle.snap_records.specs.Edits.{is_valid_except}
use Rattle.snap_world.proofs.searched_ids.last_seen.Given as goal

abbrev pub invariant-loop-at : goal.invariant-loop-at
invariant-loop-at l = record {
  within : l.at ≤ length l.ids;
  none : (j : ℕ) → l.at ≤ j → j < length l.ids
      → is_valid_except l.own l.id l.invalid (slice_index_or l.ids j 0) ≡ false;
}

abbrev pub decreases-loop-at : goal.decreases-loop-at
decreases-loop-at l = l.at
