use Rattle.std.proofs.Common.{◌≡◌, length}
use Rattle.snap_ids.specs.IdLists.{with_ids}
use Rattle.snap_ids.specs.IdBlocks.{block_ids, AreBlocks}
use Rattle.snap_ids.proofs.blocks.add_below.Given as goal

abbrev pub invariant-loop-block : goal.invariant-loop-block
invariant-loop-block l = record {
  sound : AreBlocks l.blocks.items;
  left : AreBlocks l.rest;
  same : with_ids (block_ids l.blocks.items) (block_ids l.rest)
      ≡ with_ids (block_ids l.initial.blocks.items) (block_ids l.others);
}

abbrev pub decreases-loop-block : goal.decreases-loop-block
decreases-loop-block l = length l.rest
