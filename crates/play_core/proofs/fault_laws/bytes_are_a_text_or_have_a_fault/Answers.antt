use Rattle.play_core.proofs.Total.{text_or_fault}
use Rattle.play_core.proofs.fault_laws.bytes_are_a_text_or_have_a_fault.Goals as goal

pub returns : goal.returns
returns c = text_or_fault
