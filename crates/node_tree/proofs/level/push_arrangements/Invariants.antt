use Rattle.node_tree.proofs.JoinedPushes.{ArrangesAll}
use Rattle.node_tree.proofs.level.push_arrangements.Given as goal

abbrev pub invariant-loop-index : goal.invariant-loop-index
invariant-loop-index l =
    ArrangesAll l.start l.old l.new l.fn.counts l.siblings l.fn.ops l.index l.counts l.ops
