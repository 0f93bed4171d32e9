use Rattle.std.proofs.Common.{◌≡◌, ◌≤◌, ◌<◌, ℕ, true, false, length}
use Rattle.std.specs.Prelude.{slice_index_or}
use Rattle.rt_values.specs.Maps.{contains}
use Rattle.snap_ids.specs.IdLists.{IsRising, without_ids}
use Rattle.snap_ids.specs.IdBlocks.{block_ids, numbers, AreFull}
use Rattle.snap_ids.proofs.blocks.clear_all.Given as goal

abbrev pub invariant-loop-block : goal.invariant-loop-block
invariant-loop-block l = record {
  kept : numbers l.blocks.items ≡ numbers l.initial.blocks.items;
  left : IsRising (numbers l.rest);
  within : l.at ≤ length l.blocks.items;
  passed : (j m : ℕ) → j < l.at → contains m (numbers l.rest) ≡ true
      → slice_index_or (numbers l.blocks.items) j 0 < m;
  full : l.is_empty ≡ false → AreFull l.blocks.items;
  same : without_ids (block_ids l.blocks.items) (block_ids l.rest)
      ≡ without_ids (block_ids l.initial.blocks.items) (block_ids l.others);
}

abbrev pub decreases-loop-block : goal.decreases-loop-block
decreases-loop-block l = length l.rest
