use Rattle.std.proofs.Common.{arith}
use Rattle.snap_ids.proofs.BlockIds.{number_small, first_is}
use Rattle.snap_ids.proofs.blocks.first_at.Goals as goal

pub overflow_mul-result : goal.overflow_mul-result
overflow_mul-result c = omega (
  arith,
  number_small c.args.blocks.now c.args.index (record { number = 0; bits = 0 }) c.requires.1.1
      (omega (arith, c.if-index-blocks.false)),
)

pub overflow_add-result : goal.overflow_add-result
overflow_add-result c = omega (
  arith,
  number_small c.args.blocks.now c.args.index (record { number = 0; bits = 0 }) c.requires.1.1
      (omega (arith, c.if-index-blocks.false)),
  (first_is c.args.blocks.now c.args.index (record { number = 0; bits = 0 }) c.from.result c.requires
      (omega (arith, c.if-index-blocks.false)) (omega arith) c.from.ensures).0,
)

pub returns : goal.returns
returns c = (first_is c.args.blocks.now c.args.index (record { number = 0; bits = 0 }) c.from.result c.requires
    (omega (arith, c.if-index-blocks.false)) (omega arith) c.from.ensures).1
