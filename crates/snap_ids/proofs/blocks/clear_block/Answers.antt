use Rattle.std.proofs.Common.{◌≡◌, ◌≢◌, ◌<◌, ◌≤◌, ◌==◌, ◌∙◌, refl, sym, ap, subst, arith, ℕ, List, [], ◌∷◌, length, false, inl, inr}
use Rattle.std.specs.Prelude.{slice_index_or}
use Rattle.std.proofs.lemmas.Bool.Decides.{eqb_tells}
use Rattle.snap_ids.specs.IdLists.{IsRising, without_ids}
use Rattle.snap_ids.specs.IdBlocks.{block_ids, numbers, block_at, cleared, AreFull}
use Rattle.snap_ids.specs.declared.blocks.Block.{Block}
use Rattle.snap_ids.proofs.Booleans.{not_both}
use Rattle.snap_ids.proofs.BlockIds.{number_at, not_there, none_less, without_none, clear_here, numbers_set, full_after}
use Rattle.snap_ids.proofs.blocks.clear_block.Goals as goal
use Rattle.snap_ids.proofs.blocks.clear_block.Goals.{else-at-len-via-then-at-len+else-deref-at, else-at-len-via-else-at-len}

-- The number that was read, in the blocks that were lent.
same_at : (bs read : List Block) (at n : ℕ) → read ≡ bs → (block_at read at).number ≡ n → (block_at bs at).number ≡ n
same_at bs read at n first same = subst (λ (l : List Block). (block_at l at).number ≡ n) first same

pub returns-then-deref-at-clause-ids : goal.returns-then-deref-at-clause-ids
returns-then-deref-at-clause-ids c = ap block_ids c.clear_bits.ensures.is
    ∙ clear_here c.args.block c.args.blocks.now.items c.args.at (record { number = 0; bits = 0 }) c.requires.order
    (omega (arith, c.if-at-len.true, c.len.ensures.value))
    (same_at c.args.blocks.now.items c.deref.result.now c.args.at c.args.block.number c.deref.ensures c.if-deref-at.true)
    (omega arith)

pub returns-then-deref-at-clause-numbers : goal.returns-then-deref-at-clause-numbers
returns-then-deref-at-clause-numbers c = ap numbers c.clear_bits.ensures.is
    ∙ numbers_set c.args.blocks.now.items c.args.at
    (cleared (block_at c.args.blocks.now.items c.args.at) c.args.block.bits) (record { number = 0; bits = 0 })
    (omega (arith, c.if-at-len.true, c.len.ensures.value)) refl

some_left : (x : ℕ) → (x == 0) ≡ false → 0 < x
some_left x is = elim (eqb_tells x 0) [
  | inl e ↦ absurd (not_both (x == 0) e.0 is)
  | inr e ↦ omega (arith, e.1)
]

pub returns-then-deref-at-clause-full : goal.returns-then-deref-at-clause-full
returns-then-deref-at-clause-full c full left =
    let d = cleared (block_at c.args.blocks.now.items c.args.at) c.args.block.bits in
    subst AreFull (sym c.clear_bits.ensures.is)
    (full_after c.args.blocks.now.items c.args.at d (record { number = 0; bits = 0 }) c.requires.order
    (omega (arith, c.if-at-len.true, c.len.ensures.value)) refl (some_left d.bits (sym c.clear_bits.ensures.left ∙ left))
    full)

nothing_there : (b : Block) (bs : List Block) (at : ℕ) → IsRising (numbers bs)
    → ((j : ℕ) → j < at → slice_index_or (numbers bs) j 0 < b.number)
    → (at < length bs → b.number < slice_index_or (numbers bs) at 0)
    → block_ids bs ≡ without_ids (block_ids bs) (block_ids (b ∷ []))
nothing_there b bs at r before after =
    sym (none_less bs b.number b.bits [] (not_there bs b.number at r before after) ∙ without_none (block_ids bs))

pub returns-clause-ids : goal.returns-clause-ids
returns-clause-ids c =
    let bs = c.args.blocks.now.items in
    nothing_there c.args.block bs c.args.at c.requires.order c.requires.before (λ h. elim c.else-at-len.branch [
      | else-at-len-via-then-at-len+else-deref-at w ↦ higher bs c.args.at c.args.block.number h (c.requires.after h)
          (λ same. w.if-deref-at.false
          (same_at w.deref.result.now bs c.args.at c.args.block.number (sym w.deref.ensures) same))
      | else-at-len-via-else-at-len w ↦ absurd (omega (arith, h, w.if-at-len.false, c.len.ensures.value))
    ]) where
      higher : (bs : List Block) (at n : ℕ) → at < length bs → n ≤ slice_index_or (numbers bs) at 0
          → (block_at bs at).number ≢ n → n < slice_index_or (numbers bs) at 0
      higher bs at n h low other = omega (arith, low, other, number_at bs at (record { number = 0; bits = 0 }) h)
