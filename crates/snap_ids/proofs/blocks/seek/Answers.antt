use Rattle.std.proofs.Common.{arith}
use Rattle.snap_ids.specs.IdBlocks.{numbers}
use Rattle.snap_ids.proofs.IdLists.{all_lower}
use Rattle.snap_ids.proofs.BlockIds.{number_at, length_numbers}
use Rattle.snap_ids.proofs.blocks.seek.Goals as goal
use Rattle.snap_ids.proofs.blocks.seek.Goals.{else-from-blocks-via-then-from-blocks+else-blocks-from, else-from-blocks-via-else-from-blocks}

pub search_from-requires-clause-passed : goal.search_from-requires-clause-passed
search_from-requires-clause-passed c j h = all_lower (numbers c.args.blocks.now) c.args.from c.args.number j
    c.requires.order (omega (arith, c.if-from-blocks.true, length_numbers c.args.blocks.now))
    (omega (
      arith,
      c.if-blocks-from.true,
      number_at c.args.blocks.now c.args.from (record { number = 0; bits = 0 }) c.if-from-blocks.true,
    )) h

pub returns-clause-after : goal.returns-clause-after
returns-clause-after c h = elim c.else-from-blocks.branch [
  | else-from-blocks-via-then-from-blocks+else-blocks-from w ↦ omega (
    arith,
    w.if-blocks-from.false,
    number_at c.args.blocks.now c.args.from (record { number = 0; bits = 0 }) h,
  )
  | else-from-blocks-via-else-from-blocks w ↦ absurd (omega (arith, h, w.if-from-blocks.false))
]
