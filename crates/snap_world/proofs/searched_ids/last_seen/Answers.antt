use Rattle.std.proofs.Common.{arith}
use Rattle.snap_ids.proofs.Booleans.{and_unseen}
use Rattle.snap_records.specs.Edits.{is_valid_except}
use Rattle.snap_world.proofs.Sorted.{step_down, invalid_above}
use Rattle.snap_world.proofs.searched_ids.last_seen.Goals as goal

pub loop-at-init : goal.loop-at-init
loop-at-init c = record {
  within = c.count_to-at.ensures.within;
  none = λ j low within. and_unseen _ _
      (invalid_above c.args.id c.args.invalid.now _ (c.count_to-at.ensures.above j low within));
}

pub loop-at-preserved : goal.loop-at-preserved
loop-at-preserved c =
    let inv = c.loop-at.invariant in
    record {
      within = omega (arith, inv.within);
      none = step_down (λ i. is_valid_except c.args.own.now c.args.id c.args.invalid.now i) c.args.ids.now c.loop-at.at
          inv.none (c.is_hidden.ensures.some c.loop-at-test.true) (c.is_hidden.ensures.hidden c.loop-at-test.true);
    }

pub returns : goal.returns
returns c = record {
  within = c.loop-at.invariant.within;
  none = c.loop-at.invariant.none;
  seen = c.is_hidden.ensures.seen c.loop-at-test.false;
}
