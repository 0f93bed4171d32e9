use Rattle.checked_laws.proofs.StateReads.{reads_are_of_states}
use Rattle.checked_laws.proofs.laws.reads_are_of_states.Goals as goal

pub returns : goal.returns
returns c = reads_are_of_states
