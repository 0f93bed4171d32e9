use Rattle.std.proofs.Common.{length, ◌-◌, ℕ, ◌<◌, ◌≤◌, slice_index_or}
use Rattle.snap_world.proofs.searched_ids.count_to.Given as goal

abbrev pub invariant-loop-low : goal.invariant-loop-low
invariant-loop-low l = record {
  order : l.low ≤ l.high;
  within : l.high ≤ length l.ids;
  above : (j : ℕ) → l.high ≤ j → j < length l.ids → l.id < slice_index_or l.ids j 0;
}

abbrev pub decreases-loop-low : goal.decreases-loop-low
decreases-loop-low l = l.high - l.low
