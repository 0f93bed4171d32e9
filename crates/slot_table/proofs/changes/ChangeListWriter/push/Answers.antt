use Rattle.std.proofs.Common.{arith, ap, ◌∙◌, ◌+◌, ◌++◌, ◌∷◌, []}
use Rattle.slot_table.proofs.KeptRuns.{written_push, changed_push}
use Rattle.slot_table.proofs.changes.ChangeListWriter.push.Goals as goal

pub invariant_of-self-2 : goal.invariant_of-self-2
invariant_of-self-2 c =
    let w = c.self.inside in
    let nodes = c.in-Some.ensures.1 in
    let one = c.count_node.ensures in
    let len = c.in-Some-checked_add.ensures.1 in
    written_push w.table.now.groups w.fresh c.push.new.self w.runs.items w.places.items
    c.push_reserved.new.self.items w.before w.len c.in-Some-checked_add.len w.nodes c.in-Some.nodes c.args.group
    c.self.invariant c.in_ok-push.ensures.added
    (c.push_reserved.ensures.items ∙ ap (λ l. l ++ w.len ∷ []) c.make_room.ensures.items)
    (omega (arith, len)) (nodes ∙ ap (λ n. w.nodes + n) one)

pub returns-clause-added : goal.returns-clause-added
returns-clause-added c =
    let w = c.self.inside in
    changed_push w.table.now.groups w.fresh c.push.new.self w.runs.items w.places.items w.before w.len w.nodes
    c.args.group c.args.self.now c.self.view_is c.self.invariant c.in_ok-push.ensures.added
