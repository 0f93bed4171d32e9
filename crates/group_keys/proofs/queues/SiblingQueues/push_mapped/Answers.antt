use Rattle.std.proofs.Common.{◌++◌, ◌∷◌, [], Some, cond, ap, sym, ◌∙◌}
use Rattle.std.specs.Option.{option_map_or}
use Rattle.std.proofs.lemmas.Result.{on_ok_weaker, on_err_weaker}
use Rattle.indexmap.specs.IndexMap.{get}
use Rattle.rt_groups.specs.Paths.{GroupKey, same_sibling}
use Rattle.group_keys.specs.Queues.{queued_indexes}
use Rattle.group_keys.proofs.Queue.{queue_after, queue_kept, replaced_twice}
use Rattle.group_keys.proofs.queues.SiblingQueues.push_mapped.Goals as goal

pub returns-in-None-clause-queue : goal.returns-in-None-clause-queue
returns-in-None-clause-queue c = λ s.
    let w = c.with.result in
    queue_after queued_indexes (λ (t : GroupKey). get same_sibling c.args.self.now.queues t) c.args.key s w
    (get same_sibling c.insert.new.self s) (λ l. l ++ c.args.index ∷ [])
    (c.with.ensures ∙ ap (λ o. option_map_or queued_indexes o [] ++ c.args.index ∷ [])
    (sym c.in-None.is ∙ c.in_ok-insert.ensures.old))
    (c.in_ok-insert.ensures.updates.0 s)

pub returns-in-Ok-clause-queue : goal.returns-in-Ok-clause-queue
returns-in-Ok-clause-queue c = on_ok_weaker c.push-pushed.result (λ pushed s.
    let w = c.push-pushed.new.self in
    queue_after queued_indexes (λ (t : GroupKey). get same_sibling c.args.self.now.queues t) c.args.key s w
    (get same_sibling c.insert-in-Some.new.self s) (λ l. l ++ c.args.index ∷ [])
    (pushed ∙ ap (λ o. option_map_or queued_indexes o [] ++ c.args.index ∷ [])
    (sym c.in-Some.is ∙ c.in_ok-insert.ensures.old))
    (replaced_twice (same_sibling c.args.key s) _ _ _ _ _ (c.in_ok-insert.ensures.updates.0 s)
    (c.in-Ok.ensures.updates.0 s
    ∙ ap (λ (t : GroupKey). cond (same_sibling t s) (Some w) (get same_sibling c.insert.new.self s))
    c.copy-again.ensures)))
    c.push-pushed.ensures.added

pub returns-in-Ok-clause-same : goal.returns-in-Ok-clause-same
returns-in-Ok-clause-same c = on_err_weaker c.push-pushed.result (λ same s.
    let w = c.push-pushed.new.self in
    queue_kept queued_indexes (λ (t : GroupKey). get same_sibling c.args.self.now.queues t) c.args.key s w
    (get same_sibling c.insert-in-Some.new.self s)
    (same ∙ ap (λ o. option_map_or queued_indexes o []) (sym c.in-Some.is ∙ c.in_ok-insert.ensures.old))
    (replaced_twice (same_sibling c.args.key s) _ _ _ _ _ (c.in_ok-insert.ensures.updates.0 s)
    (c.in-Ok.ensures.updates.0 s
    ∙ ap (λ (t : GroupKey). cond (same_sibling t s) (Some w) (get same_sibling c.insert.new.self s))
    c.copy-again.ensures)))
    c.push-pushed.ensures.same
