use Rattle.std.proofs.Common.{◌∙◌, ◌*◌, ◌/◌, ◌%◌, ◌^◌}
use Rattle.std.proofs.lemmas.List.{append-nil}
use Rattle.snap_ids.specs.IdWindows.{window}
use Rattle.snap_ids.proofs.BlockIds.{one_id}
use Rattle.snap_ids.proofs.blocks.block_of.Goals as goal

pub returns-clause-ids : goal.returns-clause-ids
returns-clause-ids c = append-nil (window 64 (64 * (c.args.id / 64)) (1 * 2 ^ (c.args.id % 64) % 2 ^ 64))
    ∙ one_id c.args.id
