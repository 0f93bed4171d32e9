use Rattle.std.proofs.Common.{◌≡◌, ◌∙◌, sym, ap, subst, arith, ℕ, List, [], ◌∷◌, length, refl}
use Rattle.std.specs.Prelude.{slice_index_or}
use Rattle.std.proofs.lemmas.Bool.{or_parts as neither}
use Rattle.snap_ids.specs.IdLists.{IsRising, without_ids}
use Rattle.snap_ids.specs.IdBlocks.{block_ids, numbers}
use Rattle.snap_ids.specs.declared.blocks.Block.{Block}
use Rattle.snap_ids.proofs.BlockIds.{length_numbers, without_first, without_none}
use Rattle.snap_ids.proofs.blocks.clear_all.Goals as goal

pub loop-block-preserved : goal.loop-block-preserved
loop-block-preserved c =
    let b = c.in-Some.block.now in
    let more = c.in-Some.more.now in
    let inv = c.loop-block.invariant in
    let bs = c.loop-block.blocks.items in
    let step = c.clear_block-is_empty in
    let order = subst (λ (l : List Block). IsRising (numbers l)) c.in-Some.ensures.cases.0 inv.left in
    record {
      kept = step.ensures.numbers ∙ inv.kept;
      left = order.1;
      within = omega (
        arith,
        c.seek-at.ensures.within,
        ap (λ (l : List Block). length l) c.deref.ensures,
        length_numbers bs,
        length_numbers step.new.blocks.items,
        ap (λ (l : List ℕ). length l) step.ensures.numbers,
      );
      passed = λ j m h k. omega (
        arith,
        ap (λ (l : List ℕ). slice_index_or l j 0) step.ensures.numbers,
        ap (λ (l : List Block). slice_index_or (numbers l) j 0) c.deref.ensures,
        c.seek-at.ensures.before j h,
        order.0 m k,
      );
      full = λ e. let both = neither c.loop-block.is_empty step.result e in
          step.ensures.full (inv.full both.0) both.1;
      same = ap (λ (l : List ℕ). without_ids l (block_ids more)) step.ensures.ids
          ∙ without_first (block_ids bs) b more
          ∙ ap (λ (l : List Block). without_ids (block_ids bs) (block_ids l)) (sym c.in-Some.ensures.cases.0) ∙ inv.same;
    }

no_more : (bs : List Block) → length bs ≡ 0 → bs ≡ []
no_more [] h = refl
no_more (b ∷ bs) h = absurd (omega (arith, h))

pub returns-clause-ids : goal.returns-clause-ids
returns-clause-ids c =
    sym (without_none (block_ids c.loop-block.blocks.items))
    ∙ ap (λ (l : List Block). without_ids (block_ids c.loop-block.blocks.items) (block_ids l))
    (sym (no_more c.loop-block.rest.now c.in_default.ensures.cases))
    ∙ c.loop-block.invariant.same
