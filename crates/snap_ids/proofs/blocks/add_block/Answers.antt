use Rattle.std.proofs.Common.{◌≡◌, ◌<◌, ◌≤◌, ◌∙◌, sym, ap, subst, ℕ, List, length, bit_or}
use Rattle.std.specs.Prelude.{slice_index_or, slice_set, insert, [], ◌∷◌}
use Rattle.snap_ids.specs.IdLists.{with_ids}
use Rattle.snap_ids.specs.IdBlocks.{block_ids, numbers, with_block, AreBlocks}
use Rattle.snap_ids.specs.declared.blocks.Block.{Block}
use Rattle.snap_ids.proofs.BlockIds.{merged, merged_some, put_here, put_new, ids_with, blocks_with, one_full, one_in_range}
use Rattle.snap_ids.proofs.blocks.add_block.Goals as goal

-- The blocks after the addition have the ids of the block, and are in order.
added : (b : Block) (bs new : List Block) → AreBlocks bs → AreBlocks (b ∷ []) → new ≡ with_block (merged b bs) bs
    → (block_ids new ≡ with_ids (block_ids bs) (block_ids (b ∷ []))) × AreBlocks new
added b bs new sound one is = (
  ap block_ids is ∙ ids_with b bs sound.0,
  subst AreBlocks (sym is) (blocks_with (merged b bs) bs (merged_some b bs (one_full b one.1.0)) (one_in_range b one.1.1)
      sound),
)

at_found : (b : Block) (bs read again new : List Block) (at : ℕ) → AreBlocks bs → read ≡ bs → again ≡ bs
    → at < length read → (slice_index_or read at (record { number = 0; bits = 0 })).number ≡ b.number
    → new ≡ slice_set bs at
    (record b { bits = bit_or (slice_index_or again at (record { number = 0; bits = 0 })).bits b.bits })
    → new ≡ with_block (merged b bs) bs
at_found b bs read again new at sound first second there same is =
    is ∙ ap (λ (l : List Block). slice_set bs at
    (record b { bits = bit_or (slice_index_or l at (record { number = 0; bits = 0 })).bits b.bits })) second
    ∙ put_here b bs at (record { number = 0; bits = 0 }) sound.0 (subst (λ (l : List Block). at < length l) first there)
    (subst (λ (l : List Block). (slice_index_or l at (record { number = 0; bits = 0 })).number ≡ b.number) first same)

at_place : (b : Block) (bs read new : List Block) (at : ℕ) → AreBlocks bs → read ≡ bs
    → ((j : ℕ) → j < at → slice_index_or (numbers read) j 0 < b.number) → at ≤ length read
    → (at < length read → b.number < slice_index_or (numbers read) at 0) → new ≡ insert bs at b
    → new ≡ with_block (merged b bs) bs
at_place b bs read new at sound first before within after is = is ∙ subst (λ (l : List Block).
    ((j : ℕ) → j < at → slice_index_or (numbers l) j 0 < b.number) → at ≤ length l
    → (at < length l → b.number < slice_index_or (numbers l) at 0) → insert bs at b ≡ with_block (merged b bs) bs)
    (sym first) (put_new b bs at sound.0) before within after

pub returns-in-Ok-clause-ids : goal.returns-in-Ok-clause-ids
returns-in-Ok-clause-ids c =
    (added c.args.block c.args.blocks.now.items c.set_block.new.blocks.items c.requires.sound c.requires.block
    (at_found c.args.block c.args.blocks.now.items c.deref.result.now c.deref-in-Ok.result.now c.set_block.new.blocks.items
    c.in-Ok.at c.requires.sound c.deref.ensures c.deref-in-Ok.ensures c.in-Ok.ensures.there c.in-Ok.ensures.number
    c.set_block.ensures.items)).0

pub returns-in-Ok-clause-sound : goal.returns-in-Ok-clause-sound
returns-in-Ok-clause-sound c =
    (added c.args.block c.args.blocks.now.items c.set_block.new.blocks.items c.requires.sound c.requires.block
    (at_found c.args.block c.args.blocks.now.items c.deref.result.now c.deref-in-Ok.result.now c.set_block.new.blocks.items
    c.in-Ok.at c.requires.sound c.deref.ensures c.deref-in-Ok.ensures c.in-Ok.ensures.there c.in-Ok.ensures.number
    c.set_block.ensures.items)).1

pub returns-in_ok-insert-in-Err-clause-ids : goal.returns-in_ok-insert-in-Err-clause-ids
returns-in_ok-insert-in-Err-clause-ids c =
    (added c.args.block c.args.blocks.now.items c.insert.new.self.items c.requires.sound c.requires.block
    (at_place c.args.block c.args.blocks.now.items c.deref.result.now c.insert.new.self.items c.in-Err.at c.requires.sound
    c.deref.ensures c.in-Err.ensures.before c.in-Err.ensures.within c.in-Err.ensures.after
    c.in_ok-insert-in-Err.ensures.ok)).0

pub returns-in_ok-insert-in-Err-clause-sound : goal.returns-in_ok-insert-in-Err-clause-sound
returns-in_ok-insert-in-Err-clause-sound c =
    (added c.args.block c.args.blocks.now.items c.insert.new.self.items c.requires.sound c.requires.block
    (at_place c.args.block c.args.blocks.now.items c.deref.result.now c.insert.new.self.items c.in-Err.at c.requires.sound
    c.deref.ensures c.in-Err.ensures.before c.in-Err.ensures.within c.in-Err.ensures.after
    c.in_ok-insert-in-Err.ensures.ok)).1
