use Rattle.std.proofs.Common.{◌++◌, append-nil, sym, ap, ◌∙◌, arith}
use Rattle.group_keys.specs.Queues.{queue_of}
use Rattle.rt_groups.specs.Paths.{same_sibling}
use Rattle.run_causes.proofs.BelowLevels.{queue_below}
use Rattle.run_causes.proofs.SiblingSteps.{later_index, next_sibling, queue_grows, queue_is_whole}
use Rattle.run_causes.proofs.olds.queue_siblings.Goals as goal

pub loop-i-smaller : goal.loop-i-smaller
loop-i-smaller c =
    let more = c.loop-i-test.true in
    let inside = c.requires in
    let later = later_index c.args.table.now.groups c.loop-i.i c.index_after-i.result (omega (arith, more, inside))
    c.index_after-i.ensures.after c.index_after-i.ensures.inside in
    omega (arith, more, later)

pub loop-i-preserved : goal.loop-i-preserved
loop-i-preserved c = (
  λ depth t h.
      let groups = c.args.table.now.groups in
      let left = c.loop-i.invariant.0 depth t h in
      let next = next_sibling groups depth c.loop-i.i c.index_after-i.result c.args.to left.0 left.1
      c.loop-i-test.true c.index_after-i.ensures.after c.index_after-i.ensures.inside in (
        next.rest,
        next.siblings,
        λ s.
            queue_grows groups depth c.loop-i.i c.index_after-i.result c.args.to left.0 next s c.key_at.result
            (queue_of c.loop-i.queues s) (queue_of c.push.new.self s) _ c.key_at.ensures (c.in_ok-push.ensures.added s)
            (left.2 s),
      ),
  λ s.
      let more = c.loop-i-test.true in
      let inside = c.requires in
      queue_below _ c.loop-i.i (same_sibling c.key_at.result s) (queue_of c.loop-i.queues s)
      (queue_of c.push.new.self s) (c.in_ok-push.ensures.added s) (omega (arith, more, inside))
      (c.loop-i.invariant.1 s),
)

pub returns-clause-queues : goal.returns-clause-queues
returns-clause-queues c = λ depth t h s.
    let left = c.loop-i.invariant.0 depth t h in
    let done = c.loop-i-test.false in
    sym (append-nil (queue_of c.loop-i.queues s))
    ∙ sym (ap (λ l. queue_of c.loop-i.queues s ++ l)
    (queue_is_whole c.args.table.now.groups depth c.loop-i.i c.args.to left.0 left.1 (omega (arith, done)) s))
    ∙ left.2 s
