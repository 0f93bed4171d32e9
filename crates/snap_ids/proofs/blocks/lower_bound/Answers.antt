use Rattle.std.proofs.Common.{arith, ◌-◌, length}
use Rattle.snap_ids.specs.IdBlocks.{numbers}
use Rattle.snap_ids.proofs.IdLists.{all_lower}
use Rattle.snap_ids.proofs.BlockIds.{number_at, length_numbers}
use Rattle.snap_ids.proofs.blocks.lower_bound.Goals as goal
use Rattle.snap_ids.proofs.blocks.lower_bound.Goals.{then-len-eq0-via-then-len-eq0, then-len-eq0-via-else-len-eq0+then-blocks-len, then-len-eq1-via-then-len-eq1, then-len-eq1-via-else-len-eq1+then-blocks-len-2}

pub returns-then-len-eq0-clause-before : goal.returns-then-len-eq0-clause-before
returns-then-len-eq0-clause-before c j h =
    let bs = c.args.blocks.now in
    elim c.then-len-eq0.branch [
      | then-len-eq0-via-then-len-eq0 w ↦ absurd (omega (arith, h, w.if-len-eq0.true))
      | then-len-eq0-via-else-len-eq0+then-blocks-len w ↦ all_lower (numbers bs) (length bs - 1) c.args.number j c.requires
          (omega (arith, h, length_numbers bs))
          (omega (
            arith,
            w.if-blocks-len.true,
            number_at bs (length bs - 1) (record { number = 0; bits = 0 }) (omega (arith, h)),
          )) (omega (arith, h))
    ]

pub returns-then-len-eq1-clause-before : goal.returns-then-len-eq1-clause-before
returns-then-len-eq1-clause-before c j h =
    let bs = c.args.blocks.now in
    elim c.then-len-eq1.branch [
      | then-len-eq1-via-then-len-eq1 w ↦ absurd (omega (arith, h, w.if-len-eq1.true))
      | then-len-eq1-via-else-len-eq1+then-blocks-len-2 w ↦ all_lower (numbers bs) (length bs - 2) c.args.number j
          c.requires (omega (arith, h, length_numbers bs))
          (omega (
            arith,
            w.if-blocks-len-2.true,
            number_at bs (length bs - 2) (record { number = 0; bits = 0 }) (omega (arith, h)),
          )) (omega (arith, h))
    ]

pub returns-then-len-eq1-clause-after : goal.returns-then-len-eq1-clause-after
returns-then-len-eq1-clause-after c h = omega (
  arith,
  c.if-blocks-len.false,
  number_at c.args.blocks.now (length c.args.blocks.now - 1) (record { number = 0; bits = 0 }) h,
)
