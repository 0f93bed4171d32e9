use Rattle.std.proofs.Common.{◌≡◌, length}
use Rattle.snap_ids.specs.IdLists.{with_ids}
use Rattle.snap_ids.specs.IdBlocks.{block_ids, AreBlocks}
use Rattle.snap_ids.proofs.blocks.union.Given as goal

abbrev pub invariant-loop-block : goal.invariant-loop-block
invariant-loop-block l = record {
  sound : AreBlocks l.all.items;
  left : AreBlocks l.left;
  right : AreBlocks l.right;
  same : with_ids (with_ids (block_ids l.all.items) (block_ids l.left)) (block_ids l.right)
      ≡ with_ids (block_ids l.first) (block_ids l.second);
}

abbrev pub decreases-loop-block : goal.decreases-loop-block
decreases-loop-block l = length l.right
