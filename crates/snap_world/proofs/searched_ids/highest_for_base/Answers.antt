use Rattle.snap_world.proofs.Searching.{for_member}
use Rattle.snap_world.proofs.searched_ids.highest_for_base.Goals as goal

pub returns : goal.returns
returns c = for_member c.args.family.now.members c.args.reader c.ids.result.now c.invalid.result.now
    c.args.ids.now c.id.result c.highest_seen.result c.ids.ensures c.id.ensures.id c.invalid.ensures
    c.highest_seen.ensures
