use Rattle.std.proofs.Common.{arith, length, ◌<◌}
use Rattle.snap_ids.proofs.BlockIds.{number_at, number_small, none_next, next_here, next_after}
use Rattle.snap_ids.proofs.blocks.next_id.Goals as goal

pub returns-then-at-blocks : goal.returns-then-at-blocks
returns-then-at-blocks c = none_next c.args.blocks.now c.lower_bound-at.result c.args.id c.lower_bound-at.ensures.before
    (omega (arith, c.if-at-blocks.true))

pub overflow_mul-blocks : goal.overflow_mul-blocks
overflow_mul-blocks c = omega (
  arith,
  number_small c.args.blocks.now c.lower_bound-at.result (record { number = 0; bits = 0 }) c.requires.1.1
      (omega (arith, c.if-at-blocks.false)),
)

pub first_above-requires : goal.first_above-requires
first_above-requires c = record {
  top = omega (
    arith,
    number_small c.args.blocks.now c.lower_bound-at.result (record { number = 0; bits = 0 }) c.requires.1.1
        (omega (arith, c.if-at-blocks.false)),
  );
}

pub returns-in-Some : goal.returns-in-Some
returns-in-Some c = next_here c.args.blocks.now c.lower_bound-at.result c.args.id (record { number = 0; bits = 0 })
    c.requires.0 c.lower_bound-at.ensures.before (omega (arith, c.if-at-blocks.false)) c.in-Some.next c.in-Some.ensures

pub returns-in-None : goal.returns-in-None
returns-in-None c =
    let inside : c.lower_bound-at.result < length c.args.blocks.now = omega (arith, c.if-at-blocks.false) in
    next_after c.args.blocks.now c.lower_bound-at.result c.args.id (record { number = 0; bits = 0 }) c.requires.0
    c.lower_bound-at.ensures.before inside c.first_at.result
    (omega (
      arith,
      number_at c.args.blocks.now c.lower_bound-at.result (record { number = 0; bits = 0 }) inside,
      c.lower_bound-at.ensures.after inside,
    )) c.in-None.ensures c.first_at.ensures
