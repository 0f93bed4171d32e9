use Rattle.std.proofs.Common.{◌-◌, ◌+◌, drop, length-drop, get_or, arith, ap, ◌∙◌}
use Rattle.node_tree.proofs.NodeGroups.{one_earlier, known_count, few_nodes, at_most_one}
use Rattle.node_tree.proofs.listing.count_later_nodes.Goals as goal

pub overflow_add-later : goal.overflow_add-later
overflow_add-later c =
    let gs = c.args.table.now.groups in
    let at = c.loop-at.at in
    let later = c.count_at-later.ensures ∙ ap (λ l. get_or l at 0) c.deref.ensures.value
    ∙ known_count gs c.loop-at.counts.items at c.loop-at.invariant.2 in
    let few = few_nodes (drop at gs) in
    let left = length-drop at gs in
    let one = at_most_one _ c.count_node.result c.count_node.ensures in
    let some = c.loop-at-test.true in
    let whole = c.len-at.ensures in
    let fits = c.len-at.type_inv in
    let within = c.loop-at.invariant.0 in
    omega (arith, later, few, left, one, some, whole, fits, within)

pub loop-at-preserved : goal.loop-at-preserved
loop-at-preserved c =
    let at = c.loop-at.at in
    let some = c.loop-at-test.true in
    one_earlier c.args.table.now.groups c.loop-at.counts.items at (at - 1)
    (c.count_at-later.result + c.count_node.result) c.count_node.result _
    (omega (arith, some)) c.loop-at.invariant.0 c.loop-at.invariant.1 c.loop-at.invariant.2
    c.count_node.ensures (ap (λ n. n + c.count_node.result)
    (c.count_at-later.ensures ∙ ap (λ l. get_or l at 0) c.deref.ensures.value))
