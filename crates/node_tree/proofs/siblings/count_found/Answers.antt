use Rattle.std.proofs.Common.{ap, arith}
use Rattle.node_tree.specs.Counting.{total}
use Rattle.node_tree.proofs.NextSiblings.{one_count, total_more}
use Rattle.node_tree.proofs.siblings.count_found.Goals as goal

pub loop-sibling-preserved : goal.loop-sibling-preserved
loop-sibling-preserved c = (
  one_count c.args.new.now c.args.old.now (record { number = 0; start = 0; end = 0 }) c.loop-sibling.sibling-index
      c.count_of.result c.get.result c.loop-sibling.counts.items c.push.new.self.items
      c.loop-sibling-test.true c.get.ensures c.count_of.ensures.count c.in_ok-push.ensures.items
      c.loop-sibling.invariant.0,
  let more = total_more c.loop-sibling.counts.items c.count_of.result in
      let whole = ap total c.in_ok-push.ensures.items in
      omega (arith, more, whole, c.count_of.ensures.few, c.loop-sibling.invariant.1),
)
