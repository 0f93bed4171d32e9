use Rattle.node_tree.proofs.SameLevels.{unchanged_tree_needs_no_calls}
use Rattle.node_tree.proofs.laws.unchanged_tree_needs_no_calls.Goals as goal

pub returns : goal.returns
returns c = unchanged_tree_needs_no_calls
