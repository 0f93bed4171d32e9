use Rattle.std.proofs.Common.{length, drop}
use Rattle.rt_groups.specs.Paths.{same_sibling}
use Rattle.std.specs.Option.{is_some}
use Rattle.composer.specs.OldSiblings.{level_indexes, indexes_in}
use Rattle.composer.proofs.LevelIndexes.{queue_kept, queue_taken}
use Rattle.composer.proofs.pending.Pending.take_queued.Goals as goal

pub invariant_of-self : goal.invariant_of-self
invariant_of-self c = record {
  inside = λ s.
      queue_kept (length c.args.self.now.table.now.groups) (same_sibling c.args.key.now s)
      (indexes_in c.args.self.now.queues s) (indexes_in c.take_index.new.queues s) (c.take_index.ensures.left s)
      (c.args.self.now.inside s);
}

pub returns-in-Some-clause-left : goal.returns-in-Some-clause-left
returns-in-Some-clause-left c = λ s.
    let p = c.args.self.now in
    queue_taken p.table.now.groups (is_some p.queues) (is_some c.take_index.new.queues) (same_sibling c.args.key.now s)
    (indexes_in p.queues s) (indexes_in c.take_index.new.queues s)
    (level_indexes s p.depth p.next (drop p.next p.table.now.groups)) c.requires c.take_index.ensures.same
    (c.take_index.ensures.left s)

pub returns-in-None-clause-left : goal.returns-in-None-clause-left
returns-in-None-clause-left c = λ s.
    let p = c.args.self.now in
    queue_taken p.table.now.groups (is_some p.queues) (is_some c.take_index.new.queues) (same_sibling c.args.key.now s)
    (indexes_in p.queues s) (indexes_in c.take_index.new.queues s)
    (level_indexes s p.depth p.next (drop p.next p.table.now.groups)) c.requires c.take_index.ensures.same
    (c.take_index.ensures.left s)
