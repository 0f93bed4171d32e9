use Rattle.std.proofs.Common.{◌≡◌, length}
use Rattle.rt_groups.specs.Nodes.{Nodes}
use Rattle.node_tree.specs.FlatNodes.{flat_nodes}
use Rattle.node_tree.proofs.SameLevels.{LevelsLeft}
use Rattle.node_tree.proofs.placing.have_same_numbers.Given as goal

abbrev pub invariant-loop-before : goal.invariant-loop-before
invariant-loop-before l = (o n : Nodes) → l.old ≡ flat_nodes o → l.new ≡ flat_nodes n → LevelsLeft o n l.before l.after

abbrev pub decreases-loop-before : goal.decreases-loop-before
decreases-loop-before l = length l.after
