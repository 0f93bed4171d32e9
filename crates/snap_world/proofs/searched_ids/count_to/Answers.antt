use Rattle.std.proofs.Common.{arith, ℕ, ◌<◌, ◌-◌, ◌+◌, subst, sym, inl, inr}
use Rattle.std.proofs.lemmas.Bool.Decides.{eqb_tells}
use Rattle.std.specs.Prelude.{◌/◌, slice_index_or}
use Rattle.snap_ids.proofs.IdLists.{rising_at}
use Rattle.snap_world.proofs.searched_ids.count_to.Goals as goal

pub loop-low-preserved-then-ids-middle : goal.loop-low-preserved-then-ids-middle
loop-low-preserved-then-ids-middle c =
    let half : (c.loop-low.high - c.loop-low.low) / 2 < c.loop-low.high - c.loop-low.low =
    omega (arith, c.loop-low-test.true) in
    record {
      order = omega (arith, half, c.loop-low-test.true);
      within = c.loop-low.invariant.within;
      above = c.loop-low.invariant.above;
    }

pub loop-low-preserved : goal.loop-low-preserved
loop-low-preserved c =
    let middle = c.loop-low.low + (c.loop-low.high - c.loop-low.low) / 2 in
    let half : (c.loop-low.high - c.loop-low.low) / 2 < c.loop-low.high - c.loop-low.low =
    omega (arith, c.loop-low-test.true) in
    record {
      order = omega arith;
      within = omega (arith, half, c.loop-low-test.true, c.loop-low.invariant.within);
      above = λ j low within. elim (eqb_tells j middle) [
        | inl e ↦ subst (λ (k : ℕ). c.args.id < slice_index_or c.args.ids.now k 0) (sym e.1)
            (omega (arith, c.if-ids-middle.false))
        | inr e ↦ omega (
          arith,
          rising_at c.args.ids.now middle j c.requires (omega (arith, low, e.1)) within,
          c.if-ids-middle.false,
        )
      ];
    }
