use Rattle.std.proofs.Common.{◌≡◌, take}
use Rattle.node_tree.proofs.ops.Ops.copy.Given as goal

abbrev pub invariant-loop-op : goal.invariant-loop-op
invariant-loop-op l = l.copied ≡ take l.op-index l.self
