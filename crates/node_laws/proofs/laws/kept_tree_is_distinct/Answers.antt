use Rattle.node_laws.proofs.ForestTrees.{kept_tree_is_distinct}
use Rattle.node_laws.proofs.laws.kept_tree_is_distinct.Goals as goal

pub returns : goal.returns
returns c = kept_tree_is_distinct
