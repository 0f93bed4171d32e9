use Rattle.node_laws.proofs.KeptShapes.{next_tree_can_follow}
use Rattle.node_laws.proofs.laws.next_tree_can_follow.Goals as goal

pub returns : goal.returns
returns c = next_tree_can_follow
