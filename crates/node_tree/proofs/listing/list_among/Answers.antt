use Rattle.std.proofs.Common.{arith}
use Rattle.node_tree.proofs.NodeGroups.{one_further, all_listed}
use Rattle.node_tree.proofs.listing.list_among.Goals as goal

pub loop-at-preserved : goal.loop-at-preserved
loop-at-preserved c =
    let below = c.loop-at-test.true in
    let whole = c.len-at-end.ensures in
    one_further c.args.table.now.groups _ c.loop-at.at c.loop-at.nodes.items c.push_group.new.nodes.items
    (omega (arith, below, whole)) c.in_ok-push_group.ensures c.loop-at.invariant

pub returns : goal.returns
returns c =
    let past = c.loop-at-test.false in
    let whole = c.len-at-end.ensures in
    all_listed c.args.table.now.groups c.loop-at.at c.loop-at.nodes.items
    (omega (arith, past, whole)) c.loop-at.invariant
