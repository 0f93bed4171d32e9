use Rattle.std.proofs.Common.{ap, ◌∙◌}
use Rattle.snap_ids.specs.IdLists.{without_id, without_ids}
use Rattle.snap_ids.specs.IdBlocks.{block_ids}
use Rattle.snap_ids.proofs.BlockIds.{without_one}
use Rattle.snap_ids.proofs.set.IdSet.clear.Goals as goal

pub returns : goal.returns
returns c = c.remove_all.ensures.ids
    ∙ ap (without_ids (block_ids c.self.inside.blocks.items)) c.block_of.ensures.ids
    ∙ without_one c.args.id (block_ids c.self.inside.blocks.items) ∙ ap (without_id c.args.id) c.self.view_is
