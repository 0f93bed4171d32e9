use Rattle.std.proofs.Common.{arith, ◌<◌, ◌-◌, ◌+◌, length}
use Rattle.std.specs.Prelude.{◌/◌}
use Rattle.snap_ids.specs.IdBlocks.{numbers}
use Rattle.snap_ids.proofs.IdLists.{all_lower}
use Rattle.snap_ids.proofs.BlockIds.{number_at, length_numbers}
use Rattle.snap_ids.proofs.blocks.search_from.Goals as goal

pub loop-low-preserved-then-blocks-middle : goal.loop-low-preserved-then-blocks-middle
loop-low-preserved-then-blocks-middle c =
    let bs = c.args.blocks.now in
    let half : (c.loop-low.high - c.loop-low.low) / 2 < c.loop-low.high - c.loop-low.low =
    omega (arith, c.loop-low-test.true) in
    let middle = c.loop-low.low + (c.loop-low.high - c.loop-low.low) / 2 in
    let inside : middle < length bs = omega (arith, half, c.loop-low-test.true, c.loop-low.invariant.within) in
    record {
      order = omega (arith, half, c.loop-low-test.true);
      within = c.loop-low.invariant.within;
      before = λ j h. all_lower (numbers bs) middle c.args.number j c.requires.order
          (omega (arith, inside, length_numbers bs))
          (omega (arith, c.if-blocks-middle.true, number_at bs middle (record { number = 0; bits = 0 }) inside)) h;
      after = c.loop-low.invariant.after;
    }

pub loop-low-preserved : goal.loop-low-preserved
loop-low-preserved c =
    let bs = c.args.blocks.now in
    let half : (c.loop-low.high - c.loop-low.low) / 2 < c.loop-low.high - c.loop-low.low =
    omega (arith, c.loop-low-test.true) in
    let middle = c.loop-low.low + (c.loop-low.high - c.loop-low.low) / 2 in
    let inside : middle < length bs = omega (arith, half, c.loop-low-test.true, c.loop-low.invariant.within) in
    record {
      order = omega arith;
      within = omega (arith, inside);
      before = c.loop-low.invariant.before;
      after = λ h. omega (
        arith,
        c.if-blocks-middle.false,
        number_at bs middle (record { number = 0; bits = 0 }) inside,
      );
    }
