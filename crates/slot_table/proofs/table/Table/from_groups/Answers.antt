use Rattle.std.proofs.Common.{◌∙◌, sym}
use Rattle.slot_table.proofs.JoinedGroups.{same_parts}
use Rattle.slot_table.proofs.ShrunkParts.{counts_bare}
use Rattle.slot_table.proofs.table.Table.from_groups.Goals as goal

pub invariant_of-result : goal.invariant_of-result
invariant_of-result c =
    let heads = c.from_vec-groups.result.items in
    let slots = c.from_vec.result.items in
    let parts = same_parts c.into_parts-heads.result.0.items heads c.into_parts-heads.result.1.items slots _
    c.from_vec-groups.ensures c.from_vec.ensures c.into_parts-heads.ensures in
    (parts.long, c.in_ok-counts.ensures ∙ sym (counts_bare heads slots parts.long), parts.nodes)
