use Rattle.std.proofs.Common.{sym, ap, ◌∙◌}
use Rattle.snap_ids.specs.IdBlocks.{bits_of}
use Rattle.snap_ids.proofs.BlockIds.{bits_found, bits_none, not_there}
use Rattle.snap_ids.proofs.blocks.find_bits.Goals as goal

pub returns-in-Ok : goal.returns-in-Ok
returns-in-Ok c =
    sym (bits_found c.args.blocks.now c.in-Ok.at (record { number = 0; bits = 0 }) c.requires c.in-Ok.ensures.there)
    ∙ ap (bits_of c.args.blocks.now) c.in-Ok.ensures.number

pub returns-in-Err : goal.returns-in-Err
returns-in-Err c = sym (bits_none c.args.blocks.now c.args.number (not_there c.args.blocks.now c.args.number c.in-Err.field-0
    c.requires c.in-Err.ensures.before c.in-Err.ensures.after))
