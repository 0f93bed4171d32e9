use Rattle.std.proofs.Common.{◌≡◌, ◌++◌, map, length}
use Rattle.node_tree.specs.Calls.{attribute_of}
use Rattle.node_tree.specs.Placing.{set_calls}
use Rattle.node_tree.proofs.level.push_sets.Given as goal

abbrev pub invariant-loop-before : goal.invariant-loop-before
invariant-loop-before l = l.ops ++ set_calls (map attribute_of l.old_rest) (map attribute_of l.new_rest) ≡ l.fn.ops
    ++ set_calls (map attribute_of l.fn.old) (map attribute_of l.fn.new)

abbrev pub decreases-loop-before : goal.decreases-loop-before
decreases-loop-before l = length l.old_rest
