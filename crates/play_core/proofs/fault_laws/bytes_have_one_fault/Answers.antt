use Rattle.play_core.proofs.OneFault.{one_fault}
use Rattle.play_core.proofs.fault_laws.bytes_have_one_fault.Goals as goal

pub returns : goal.returns
returns c = one_fault
