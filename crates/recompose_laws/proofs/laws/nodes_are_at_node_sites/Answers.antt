use Rattle.recompose_laws.proofs.Sites.{nodes_are_at_node_sites}
use Rattle.recompose_laws.proofs.laws.nodes_are_at_node_sites.Goals as goal

pub returns : goal.returns
returns c = nodes_are_at_node_sites
