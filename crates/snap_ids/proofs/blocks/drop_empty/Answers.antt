use Rattle.std.proofs.Common.{◌≡◌, ◌≢◌, ◌<◌, ◌≤◌, ◌+◌, ◌∙◌, sym, ap, subst, arith, ℕ, List, length, not, take}
use Rattle.std.specs.Prelude.{slice_index_or, slice_set, filter}
use Rattle.std.proofs.lemmas.Bool.Decides.{Decides-eqb}
use Rattle.std.proofs.lemmas.List.{get_or_default}
use Rattle.std.proofs.lemmas.List.Filters.{FiltersInPlace, FiltersInPlace-more_set, FiltersInPlace-more_no, FiltersInPlace-all}
use Rattle.snap_ids.specs.IdBlocks.{block_ids, block_at, has_bits, AreBlocks}
use Rattle.snap_ids.specs.declared.blocks.Block.{Block}
use Rattle.snap_ids.proofs.BlockIds.{unlike, full_ids, blocks_filter}
use Rattle.snap_ids.proofs.blocks.drop_empty.Goals as goal
use Rattle.snap_ids.proofs.blocks.drop_empty.Goals.{then-block-ne0, else-block-ne0}

-- What was read, at any default.
read_at : (bs read : List Block) (at : ℕ) (d : Block) → read ≡ bs → at < length bs
    → block_at read at ≡ slice_index_or bs at d
read_at bs read at d first within =
    ap (λ (l : List Block). block_at l at) first ∙ get_or_default bs at (record { number = 0; bits = 0 }) d within

moved : (init bs read new : List Block) (kept at : ℕ) → FiltersInPlace has_bits init bs kept at → at < length bs
    → read ≡ bs → (block_at read at).bits ≢ 0 → new ≡ slice_set bs kept (block_at read at)
    → FiltersInPlace has_bits init new (kept + 1) (at + 1)
moved init bs read new kept at so within first some is =
    subst (λ (l : List Block). FiltersInPlace has_bits init l (kept + 1) (at + 1)) (sym is)
    (FiltersInPlace-more_set so within (ap not (unlike (block_at read at).bits 0 some))
    (read_at bs read at (block_at read at) first within))

passed : (init bs read : List Block) (kept at : ℕ) → FiltersInPlace has_bits init bs kept at → at < length bs
    → read ≡ bs → (block_at read at).bits ≡ 0 → FiltersInPlace has_bits init bs kept (at + 1)
passed init bs read kept at so within first none =
    FiltersInPlace-more_no so within (ap not ((Decides-eqb (block_at read at).bits 0).1 none))
    (read_at bs read at (block_at read at) first within)

pub loop-at-preserved : goal.loop-at-preserved
loop-at-preserved c =
    let within : c.loop-at.at < length c.loop-at.blocks.items =
    omega (arith, c.loop-at-test.true, c.len-len.ensures.value, c.loop-at.invariant.long) in
    elim c.if-block-ne0.branch [
      | then-block-ne0 w ↦ rw (w.blocks-is, w.kept-is) (moved c.args.blocks.now.items c.loop-at.blocks.items
          c.deref.result.now w.set_block.new.blocks.items c.loop-at.kept c.loop-at.at c.loop-at.invariant within
          c.deref.ensures w.if-block-ne0.true w.set_block.ensures.items)
      | else-block-ne0 w ↦ rw (w.blocks-is, w.kept-is) (passed c.args.blocks.now.items c.loop-at.blocks.items
          c.deref.result.now c.loop-at.kept c.loop-at.at c.loop-at.invariant within c.deref.ensures
          w.if-block-ne0.false)
    ]

left : (init bs new : List Block) (kept at : ℕ) → FiltersInPlace has_bits init bs kept at → length init ≤ at
    → new ≡ take kept bs → new ≡ filter has_bits init
left init bs new kept at so past is = is ∙ FiltersInPlace-all so past

pub returns-clause-ids : goal.returns-clause-ids
returns-clause-ids c =
    ap block_ids (left c.args.blocks.now.items c.loop-at.blocks.items c.truncate.new.self.items c.loop-at.kept c.loop-at.at
    c.loop-at.invariant (omega (arith, c.loop-at-test.false, c.len-len.ensures.value)) c.truncate.ensures.items)
    ∙ full_ids c.args.blocks.now.items

pub returns-clause-sound : goal.returns-clause-sound
returns-clause-sound c = subst AreBlocks
    (sym (left c.args.blocks.now.items c.loop-at.blocks.items c.truncate.new.self.items c.loop-at.kept c.loop-at.at
    c.loop-at.invariant (omega (arith, c.loop-at-test.false, c.len-len.ensures.value)) c.truncate.ensures.items))
    (blocks_filter c.args.blocks.now.items c.requires.order c.requires.range)
