use Rattle.std.proofs.Common.{length, ◌-◌, ℕ, ◌<◌, ◌≤◌, slice_index_or}
use Rattle.snap_ids.specs.IdBlocks.{numbers}
use Rattle.snap_ids.proofs.blocks.search_from.Given as goal

abbrev pub invariant-loop-low : goal.invariant-loop-low
invariant-loop-low l = record {
  order : l.low ≤ l.high;
  within : l.high ≤ length l.blocks;
  before : (j : ℕ) → j < l.low → slice_index_or (numbers l.blocks) j 0 < l.number;
  after : l.high < length l.blocks → l.number ≤ slice_index_or (numbers l.blocks) l.high 0;
}

abbrev pub decreases-loop-low : goal.decreases-loop-low
decreases-loop-low l = l.high - l.low
