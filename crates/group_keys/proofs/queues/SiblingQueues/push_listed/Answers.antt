use Rattle.std.proofs.Common.{rules, ap, sym, ◌∙◌}
use Rattle.rt_groups.specs.Paths.{same_sibling}
use Rattle.path_laws.specs.SiblingEquality.{same_is}
use Rattle.group_keys.specs.Queues.{queue_of, listed_index, mapped_queue}
use Rattle.group_keys.proofs.Queue.{listed_after_push, nothing_mapped}
use Rattle.group_keys.proofs.queues.SiblingQueues.push_listed.Goals as goal

pub returns-clause-pushed : goal.returns-clause-pushed
unfolding queue_of
returns-clause-pushed c = λ put s.
    let key = c.args.key.now in
    let list = c.args.self.now.numbered in
    listed_after_push (same_sibling key s) (listed_index list s) (listed_index c.put.new.self s)
    (mapped_queue c.args.self.now s) c.args.index (nothing_mapped c.args.self.now s (search rules))
    (λ e. ap (listed_index list) (sym (same_is key s e)) ∙ c.put.ensures.free put) (c.put.ensures.put put s)
