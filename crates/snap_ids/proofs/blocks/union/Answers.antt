use Rattle.std.proofs.Common.{◌∙◌, sym, ap, subst, ℕ, List, [], ◌∷◌}
use Rattle.snap_ids.specs.IdLists.{with_ids}
use Rattle.snap_ids.specs.IdBlocks.{block_ids, AreBlocks}
use Rattle.snap_ids.specs.declared.blocks.Block.{Block}
use Rattle.snap_ids.proofs.BlockIds.{rising_blocks, first_block, later_blocks, with_first, with_only, with_swap, no_blocks}
use Rattle.snap_ids.proofs.blocks.union.Goals as goal

pub loop-block-init : goal.loop-block-init
loop-block-init c = record {
  sound = subst AreBlocks (sym c.in_ok-all.ensures.items) no_blocks;
  left = c.requires.first;
  right = c.requires.second;
  same = ap (λ (l : List Block). with_ids (with_ids (block_ids l) (block_ids c.args.first.now))
      (block_ids c.args.second.now)) c.in_ok-all.ensures.items
      ∙ ap (λ (l : List ℕ). with_ids l (block_ids c.args.second.now))
      (with_only (block_ids c.args.first.now) (rising_blocks c.args.first.now c.requires.first.0));
}

pub add_block-requires-clause-block : goal.add_block-requires-clause-block
add_block-requires-clause-block c = first_block c.in-Some.block.now c.in-Some.more.now
    (subst AreBlocks c.in-Some.ensures.cases.0 c.loop-block.invariant.right)

pub loop-block-preserved : goal.loop-block-preserved
loop-block-preserved c =
    let b = c.in-Some.block.now in
    let more = c.in-Some.more.now in
    let inv = c.loop-block.invariant in
    let old = c.loop-block.all.items in
    let mid = c.add_below.new.blocks.items in
    let left = c.in_ok-left.left.now in
    record {
      sound = c.add_block.ensures.sound;
      left = c.in_ok-left.ensures.rest;
      right = later_blocks b more (subst AreBlocks c.in-Some.ensures.cases.0 inv.right);
      same = ap (λ (l : List ℕ). with_ids (with_ids l (block_ids left)) (block_ids more)) c.in_ok-add_block.ensures.ids
          ∙ ap (λ (l : List ℕ). with_ids l (block_ids more))
          (with_swap (block_ids mid) (block_ids (b ∷ [])) (block_ids left)
          (rising_blocks mid c.in_ok-left.ensures.sound.0))
          ∙ with_first (with_ids (block_ids mid) (block_ids left)) b more
          ∙ ap (λ (l : List ℕ). with_ids l (block_ids (b ∷ more))) c.in_ok-left.ensures.ids
          ∙ ap (λ (l : List Block). with_ids (with_ids (block_ids old) (block_ids c.loop-block.left.now)) (block_ids l))
          (sym c.in-Some.ensures.cases.0)
          ∙ inv.same;
    }
