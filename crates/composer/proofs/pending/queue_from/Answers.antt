use Rattle.std.proofs.Common.{drop, arith, sym, subst, ◌∙◌}
use Rattle.group_keys.specs.Queues.{queue_of}
use Rattle.composer.specs.OldSiblings.{level_indexes, AreInside}
use Rattle.composer.proofs.LevelIndexes.{later_index, queue_grows, queue_is_whole, got_inside, are_inside}
use Rattle.composer.proofs.pending.queue_from.Goals as goal

pub loop-alloc-smaller : goal.loop-alloc-smaller
loop-alloc-smaller c =
    let later = later_index c.args.table.now.groups c.args.depth c.loop-alloc.at c.index_after-at.result
    (sym c.is_level.ensures ∙ c.loop-alloc-test.true) c.index_after-at.ensures.after
    c.index_after-at.ensures.inside in
    let inside = later.0 in
    let greater = later.1 in
    omega (arith, inside, greater)

pub loop-alloc-preserved : goal.loop-alloc-preserved
loop-alloc-preserved c = λ s.
    queue_grows s c.args.table.now.groups c.args.depth c.loop-alloc.at c.index_after-at.result c.sibling_at.result
    (queue_of c.loop-alloc.queues s) (queue_of c.push.new.self s) _
    (sym c.is_level.ensures ∙ c.loop-alloc-test.true) c.index_after-at.ensures.after c.index_after-at.ensures.inside
    c.sibling_at.ensures (c.in_ok-push.ensures.added s) (c.loop-alloc.invariant s)

pub returns-clause-inside : goal.returns-clause-inside
returns-clause-inside c = λ s k i.
    let groups = c.args.table.now.groups in
    let whole = queue_is_whole s groups c.args.depth c.loop-alloc.at (queue_of c.loop-alloc.queues s)
    (level_indexes s c.args.depth c.args.next (drop c.args.next groups))
    (sym c.is_level.ensures ∙ c.loop-alloc-test.false) (c.loop-alloc.invariant s) in
    got_inside groups (queue_of c.loop-alloc.queues s)
    (subst (λ l. AreInside groups l) (sym whole) (are_inside s groups c.args.depth c.args.next)) k i
