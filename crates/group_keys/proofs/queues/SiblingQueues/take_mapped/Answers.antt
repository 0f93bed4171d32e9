use Rattle.std.proofs.Common.{rules, drop, slice_get, [], ap, sym, ◌∙◌}
use Rattle.std.specs.Option.{option_map_or}
use Rattle.indexmap.specs.IndexMap.{get, with_value_at}
use Rattle.rt_groups.specs.Paths.{GroupKey, same_sibling}
use Rattle.group_keys.specs.Queues.{queued_indexes}
use Rattle.group_keys.proofs.Queue.{queue_after, none_after, value_after_write}
use Rattle.group_keys.proofs.queues.SiblingQueues.take_mapped.Goals as goal

pub returns-in_err-index-clause-left : goal.returns-in_err-index-clause-left
returns-in_err-index-clause-left c = λ s.
    none_after queued_indexes (λ (t : GroupKey). get same_sibling c.args.self.now.queues t) c.args.key.now s
    (search rules)

pub returns-clause-found : goal.returns-clause-found
returns-clause-found c =
    c.pop.ensures.found ∙ ap (λ o. slice_get (option_map_or queued_indexes o []) 0)
    (sym c.index_mut.ensures.value ∙ c.in_ok-index.ensures.value)

pub returns-clause-left : goal.returns-clause-left
returns-clause-left c = λ s.
    let map = c.args.self.now.queues in
    let key = c.args.key.now in
    let e = c.in_ok-index.ensures in
    let i = c.in_ok-index.index in
    let w = c.pop.new.self in
    queue_after queued_indexes (λ (t : GroupKey). get same_sibling map t) key s w
    (get same_sibling (with_value_at map i w) s) (λ l. drop 1 l)
    (c.pop.ensures.left
    ∙ ap (λ o. drop 1 (option_map_or queued_indexes o [])) (sym c.index_mut.ensures.value ∙ e.value))
    (value_after_write map key s i w c.get_index_of.ensures.unique (sym e.index) e.within)
