use Rattle.std.proofs.Common.{sym, ap, ◌∙◌, ◌==◌, ◌%◌}
use Rattle.std.specs.Int.{bit_at}
use Rattle.snap_ids.proofs.BlockIds.{block_has}
use Rattle.snap_ids.proofs.blocks.has_id.Goals as goal

pub returns : goal.returns
returns c = c.has_bit.ensures ∙ ap (λ x. bit_at x (c.args.id % 64) == 1) c.bits_at.ensures
    ∙ sym (block_has c.args.blocks.now c.args.id c.requires)
