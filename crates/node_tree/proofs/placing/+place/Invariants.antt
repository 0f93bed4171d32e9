use Rattle.std.proofs.Common.{◌≡◌, ◌+◌, ◌*◌, ◌≤◌, ◌++◌, length}
use Rattle.rt_groups.specs.Nodes.{Nodes}
use Rattle.node_tree.specs.NodeTrees.{node_list}
use Rattle.node_tree.specs.Placing.{inner_calls, ops_between}
use Rattle.node_tree.specs.Premises.{AllDistinct}
use Rattle.node_tree.specs.FlatNodes.{flat_nodes}
use Rattle.node_tree.specs.SiblingLists.{nodes_from, HaveSameNumbers}
use Rattle.node_tree.proofs.SameLevels.{IsAlong}
use Rattle.node_tree.proofs.placing.+place.Given as goal

abbrev pub decreases-push_level : goal.decreases-push_level
decreases-push_level l = 3 * length l.new.now + 2

abbrev pub decreases-push_same_level : goal.decreases-push_same_level
decreases-push_same_level l = 3 * length l.new.now + 1

abbrev pub decreases-push_other_level : goal.decreases-push_other_level
decreases-push_other_level l = 3 * length l.new.now + 1

abbrev pub decreases-push_inner : goal.decreases-push_inner
decreases-push_inner l = 3 * length l.new.now

abbrev pub invariant-push_other_level-loop-index : goal.invariant-push_other_level-loop-index
invariant-push_other_level-loop-index l = (o n : Nodes) → l.old ≡ flat_nodes o → l.new ≡ flat_nodes n → AllDistinct o
    → AllDistinct n
    → l.ops ++ inner_calls l.index (node_list o) (nodes_from l.index n) ≡ l.fn.ops ++ ops_between (node_list o) n

abbrev pub invariant-push_same_level-loop-before : goal.invariant-push_same_level-loop-before
invariant-push_same_level-loop-before l =
    ((o n : Nodes) → l.old ≡ flat_nodes o → l.new ≡ flat_nodes n → AllDistinct o → AllDistinct n → HaveSameNumbers o n
    → IsAlong o n l.before l.after l.index l.ops (l.fn.ops ++ ops_between (node_list o) n))
    × (l.index + length l.after ≤ length l.new)

abbrev pub decreases-push_same_level-loop-before : goal.decreases-push_same_level-loop-before
decreases-push_same_level-loop-before l = length l.after
