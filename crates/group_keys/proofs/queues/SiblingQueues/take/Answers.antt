use Rattle.std.proofs.Common.{ap, sym, ◌∙◌}
use Rattle.rt_groups.specs.Paths.{same_sibling}
use Rattle.path_laws.specs.SiblingEquality.{same_is}
use Rattle.group_keys.specs.Queues.{queue_of, listed_index, mapped_queue}
use Rattle.group_keys.proofs.Queue.{listed_after_take, mapped_after_take}
use Rattle.group_keys.proofs.queues.SiblingQueues.take.Goals as goal

pub returns-in-Some-clause-left : goal.returns-in-Some-clause-left
unfolding queue_of
returns-in-Some-clause-left c = λ s.
    let key = c.args.key.now in
    let list = c.args.self.now.numbered in
    listed_after_take (same_sibling key s) (listed_index list s) (listed_index c.take.new.self s)
    (mapped_queue c.args.self.now s) c.in-Some.index
    (λ e. ap (listed_index list) (sym (same_is key s e)) ∙ sym c.take.ensures.found ∙ c.in-Some.is)
    (c.take.ensures.left s)

pub returns-in-None-clause-left : goal.returns-in-None-clause-left
unfolding queue_of
returns-in-None-clause-left c = λ s.
    let key = c.args.key.now in
    let list = c.args.self.now.numbered in
    mapped_after_take (same_sibling key s) (listed_index list s) (listed_index c.take_mapped.new.self.numbered s)
    (mapped_queue c.args.self.now s) (mapped_queue c.take_mapped.new.self s)
    (λ e. ap (listed_index list) (sym (same_is key s e)) ∙ sym c.take.ensures.found ∙ c.in-None.is)
    (ap (λ n. listed_index n s) c.take_mapped.ensures.list ∙ c.take.ensures.left s)
    (c.take_mapped.ensures.left s)
