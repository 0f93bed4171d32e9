-- Internal: the old siblings that no new group is matched with.
use Rattle.std.specs.Prelude.{ℕ, List, drop, if◌then◌else◌}
use Rattle.std.specs.Option.{is_some}
use Rattle.rt_groups.specs.Paths.{GroupKey}
use Rattle.composer.specs.declared.pending.Pending.{Pending}
use Rattle.composer.specs.OldSiblings.{KeyInfo, level_indexes, indexes_in, infos_at}

-- The indexes of the unmatched old siblings with this site and key, in order.
abbrev pub waiting_indexes : Pending → GroupKey → List ℕ
waiting_indexes p s =
    if is_some p.queues then indexes_in p.queues s else level_indexes s p.depth p.next (drop p.next p.table.now.groups)

-- The unmatched old siblings with this site and key, in order.
abbrev pub waiting_siblings : Pending → GroupKey → List KeyInfo
waiting_siblings p s = infos_at p.table.now.groups (waiting_indexes p s)
