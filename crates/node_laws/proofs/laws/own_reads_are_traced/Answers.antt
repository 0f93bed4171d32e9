use Rattle.node_laws.proofs.TracedReads.{own_reads_are_traced}
use Rattle.node_laws.proofs.laws.own_reads_are_traced.Goals as goal

pub returns : goal.returns
returns c = own_reads_are_traced
