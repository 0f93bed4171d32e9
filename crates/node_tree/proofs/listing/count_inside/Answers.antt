use Rattle.std.proofs.Common.{◌∙◌}
use Rattle.node_tree.proofs.NodeGroups.{inside_is}
use Rattle.node_tree.proofs.listing.count_inside.Goals as goal

pub returns : goal.returns
returns c =
    c.saturating_sub.ensures
    ∙ inside_is c.args.table.now.groups c.args.counts.now _ c.args.at c.index_after.result c.count_at.result
    c.count_at-2.result c.requires.counts c.requires.inside c.index_after.ensures.after c.count_at.ensures
    c.count_at-2.ensures
