use Rattle.node_tree.proofs.InnerCalls.{ops_turn}
use Rattle.node_tree.proofs.laws.ops_turn_the_old_tree_into_the_new.Goals as goal

pub returns : goal.returns
returns c = ops_turn
