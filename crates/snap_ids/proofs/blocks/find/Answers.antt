use Rattle.std.proofs.Common.{arith}
use Rattle.snap_ids.proofs.BlockIds.{number_at}
use Rattle.snap_ids.proofs.blocks.find.Goals as goal
use Rattle.snap_ids.proofs.blocks.find.Goals.{else-at-blocks-via-then-at-blocks+else-blocks-at, else-at-blocks-via-else-at-blocks}

pub returns-else-at-blocks-clause-after : goal.returns-else-at-blocks-clause-after
returns-else-at-blocks-clause-after c h = elim c.else-at-blocks.branch [
  | else-at-blocks-via-then-at-blocks+else-blocks-at w ↦ omega (
    arith,
    c.lower_bound-at.ensures.after h,
    w.if-blocks-at.false,
    number_at c.args.blocks.now c.lower_bound-at.result (record { number = 0; bits = 0 }) h,
  )
  | else-at-blocks-via-else-at-blocks w ↦ absurd (omega (arith, h, w.if-at-blocks.false))
]
