use Rattle.std.proofs.Common.{◌≡◌, ◌≤◌, length, arith, ap, ◌∙◌, ◌+◌, ◌-◌}
use Rattle.slot_table.proofs.KeptRuns.{written_keep}
use Rattle.slot_table.proofs.changes.ChangeListWriter.keep.Goals as goal

pub invariant_of-self-2 : goal.invariant_of-self-2
invariant_of-self-2 c =
    let w = c.self.inside in
    let len = c.in-Some-checked_add.ensures.1 in
    let same : length w.table.now.groups ≡ length c.args.self.now.olds = ap (λ s. length s.olds) c.self.view_is in
    let within = c.requires.inside in
    let high : c.args.to ≤ length w.table.now.groups = omega (arith, same, within) in
    written_keep w.table.now.groups w.fresh w.runs.items c.add_run.new.runs.items w.places.items w.before
    c.len-fresh.result w.len c.in-Some-checked_add.len w.nodes c.in-Some.nodes (c.len-fresh.result - w.before)
    c.args.from c.args.to c.self.invariant c.len-fresh.ensures
    (c.in_ok-add_run.ensures.added w.table.now.groups c.self.invariant.inside c.requires.order high)
    (omega arith) c.requires.order high (omega (arith, len))
    (c.in-Some.ensures.1 ∙ ap (λ n. w.nodes + n) c.count_nodes.ensures)
