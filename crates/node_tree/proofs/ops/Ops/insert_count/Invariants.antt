use Rattle.std.proofs.Common.{◌≡◌, ◌+◌, ◌≤◌, drop}
use Rattle.node_tree.specs.Calls.{insert_count}
use Rattle.node_tree.proofs.ops.Ops.insert_count.Given as goal

abbrev pub invariant-loop-op : goal.invariant-loop-op
invariant-loop-op l = (l.count + insert_count (drop l.op-index l.op-items) ≡ insert_count l.op-items)
    × (l.count ≤ l.op-index)
