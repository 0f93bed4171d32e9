use Rattle.std.proofs.Common.{arith, sym, ap, ◌∙◌, ◌-◌, length}
use Rattle.snap_ids.specs.IdBlocks.{numbers, bits_of}
use Rattle.snap_ids.proofs.IdLists.{all_lower}
use Rattle.snap_ids.proofs.BlockIds.{number_at, length_numbers, bits_found, none_past}
use Rattle.snap_ids.proofs.blocks.bits_at.Goals as goal
use Rattle.snap_ids.proofs.blocks.bits_at.Goals.{then-len-eq0-via-then-len-eq0, then-len-eq0-via-else-len-eq0+then-blocks-len}

pub returns-then-len-eq0 : goal.returns-then-len-eq0
returns-then-len-eq0 c =
    let bs = c.args.blocks.now in
    elim c.then-len-eq0.branch [
      | then-len-eq0-via-then-len-eq0 w ↦
          none_past bs c.args.number c.requires (λ j h. absurd (omega (arith, h, w.if-len-eq0.true)))
      | then-len-eq0-via-else-len-eq0+then-blocks-len w ↦ none_past bs c.args.number c.requires
          (λ j h. all_lower (numbers bs) (length bs - 1) c.args.number j c.requires (omega (arith, h, length_numbers bs))
          (omega (
            arith,
            w.if-blocks-len.true,
            number_at bs (length bs - 1) (record { number = 0; bits = 0 }) (omega (arith, h)),
          )) (omega (arith, h)))
    ]

pub returns-then-blocks-len-2 : goal.returns-then-blocks-len-2
returns-then-blocks-len-2 c =
    let bs = c.args.blocks.now in
    sym (bits_found bs (length bs - 1) (record { number = 0; bits = 0 }) c.requires (omega (arith, c.if-len-eq0.false)))
    ∙ ap (bits_of bs) c.if-blocks-len-2.true
