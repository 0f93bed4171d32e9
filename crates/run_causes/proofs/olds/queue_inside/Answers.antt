use Rattle.std.proofs.Common.{◌≡◌, ◌<◌, ◌+◌, [], length, append-nil, refl, ap, sym, subst, ◌∙◌, arith, Option, ℕ}
use Rattle.std.specs.Prelude.{IfOk, IfSome}
use Rattle.rt_groups.specs.Paths.{GroupKey}
use Rattle.rt_groups.specs.PreorderGroups.{preorder}
use Rattle.group_keys.specs.Queues.{queue_of}
use Rattle.run_causes.specs.OldMatches.{inside_at, inner_level}
use Rattle.run_causes.proofs.OldForests.{preorder_count}
use Rattle.run_causes.proofs.SiblingSteps.{group_inside, inner_siblings}
use Rattle.run_causes.proofs.olds.queue_inside.Goals as goal

pub returns-in-Some-clause-queues : goal.returns-in-Some-clause-queues
returns-in-Some-clause-queues c = λ before is.
    let groups = c.args.old.now.groups in
    let i = c.in-Some.i in
    let many = preorder_count 0 before in
    let long : length groups ≡ length (preorder 0 before) = ap (λ l. length l) is in
    let within : i < length groups =
    subst (λ (f : Option ℕ). IfSome f (λ n. n < length groups)) c.in-Some.is c.requires in
    let here = group_inside groups [] 0 0 i before (is ∙ sym (append-nil (preorder 0 before))) refl (omega arith)
    (omega (arith, within, many, long)) in
    let there = inner_siblings groups i c.index_after.result (inside_at i 0 before) here within
    c.index_after.ensures.after c.index_after.ensures.inside in
    subst (λ (f : Option ℕ). IfOk c.queue_siblings.result (λ queues. (s : GroupKey) → queue_of queues s ≡ inner_level before f s))
    (sym c.in-Some.is) (c.queue_siblings.ensures.queues (here.depth + 1) (inside_at i 0 before) there)
