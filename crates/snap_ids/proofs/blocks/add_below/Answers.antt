use Rattle.std.proofs.Common.{◌∙◌, sym, ap, subst, ℕ, List}
use Rattle.snap_ids.specs.IdLists.{with_ids}
use Rattle.snap_ids.specs.IdBlocks.{block_ids, AreBlocks}
use Rattle.snap_ids.specs.declared.blocks.Block.{Block}
use Rattle.snap_ids.proofs.BlockIds.{first_block, later_blocks, with_first}
use Rattle.snap_ids.proofs.blocks.add_below.Goals as goal

pub add_block-requires-clause-block : goal.add_block-requires-clause-block
add_block-requires-clause-block c = first_block c.in-Some.block.now c.in-Some.more.now
    (subst AreBlocks c.in-Some.ensures.cases.0 c.loop-block.invariant.left)

pub loop-block-preserved : goal.loop-block-preserved
loop-block-preserved c =
    let b = c.in-Some.block.now in
    let more = c.in-Some.more.now in
    let inv = c.loop-block.invariant in
    let bs = c.loop-block.blocks.items in
    record {
      sound = c.add_block.ensures.sound;
      left = later_blocks b more (subst AreBlocks c.in-Some.ensures.cases.0 inv.left);
      same = ap (λ (l : List ℕ). with_ids l (block_ids more)) c.in_ok-add_block.ensures.ids
          ∙ with_first (block_ids bs) b more
          ∙ ap (λ (l : List Block). with_ids (block_ids bs) (block_ids l)) (sym c.in-Some.ensures.cases.0) ∙ inv.same;
    }
