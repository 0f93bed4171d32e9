use Rattle.std.proofs.Common.{ℕ, ◌+◌, ◌-◌, ap, ◌∙◌, List, arith, take, drop, length-drop}
use Rattle.std.proofs.lemmas.List.{length-take-le}
use Rattle.rt_groups.specs.declared.groups.Group.{Group}
use Rattle.slot_table.proofs.KeptRuns.{nodes_fit, nodes_grow}
use Rattle.slot_table.proofs.table.Table.count_nodes.Goals as goal

pub loop-i-preserved : goal.loop-i-preserved
loop-i-preserved c =
    let low = c.loop-i.invariant.0 in
    let more = c.loop-i-test.true in
    let inside = c.requires.inside in (
      omega (arith, low),
      ap (λ n. c.loop-i.nodes + n) c.count_node-nodes.ensures
          ∙ nodes_grow c.args.self.now.groups c.args.from c.loop-i.i c.loop-i.nodes low (omega (arith, more, inside))
          c.loop-i.invariant.1,
    )

pub overflow_add-nodes : goal.overflow_add-nodes
overflow_add-nodes c =
    let low = c.loop-i.invariant.0 in
    let more = c.loop-i-test.true in
    let inside = c.requires.inside in
    let gs : List Group = c.args.self.now.groups in
    let count : ℕ = (c.loop-i.i + 1) - c.args.from in
    let same = (loop-i-preserved c).1 in
    let fit = nodes_fit (take count (drop c.args.from gs)) in
    let rest = length-drop c.args.from gs in
    let size = length-take-le count (drop c.args.from gs) (omega (arith, rest, low, more, inside)) in
    let range = c.ranges.to.fits in
    omega (arith, same, fit, size, low, more, range)
