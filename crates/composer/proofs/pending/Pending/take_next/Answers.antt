use Rattle.std.proofs.Common.{drop}
use Rattle.rt_groups.specs.Paths.{same_sibling}
use Rattle.slot_table.specs.TableGroups.{group_at}
use Rattle.std.specs.Option.{is_some}
use Rattle.composer.specs.OldSiblings.{sibling_key, level_indexes, indexes_in}
use Rattle.composer.proofs.LevelIndexes.{level_step, next_taken}
use Rattle.composer.proofs.pending.Pending.take_next.Goals as goal

pub returns-clause-left : goal.returns-clause-left
returns-clause-left c = λ s.
    let p = c.args.self.now in
    let groups = p.table.now.groups in
    let j = c.index_after-self.result in
    next_taken groups (is_some p.queues) (same_sibling (sibling_key (group_at groups p.next)) s) p.next
    (indexes_in p.queues s) (level_indexes s p.depth p.next (drop p.next groups))
    (level_indexes s p.depth j (drop j groups)) c.requires.ordered
    (level_step s groups p.depth p.next j c.requires.level c.index_after-self.ensures.after
    c.index_after-self.ensures.inside)
