use Rattle.node_laws.proofs.ProgramNodes.{nodes_are_at_sites_of_programs}
use Rattle.node_laws.proofs.laws.nodes_are_at_sites_of_programs.Goals as goal

pub returns : goal.returns
returns c = nodes_are_at_sites_of_programs
