use Rattle.play_core.proofs.OneFault.{faulty_is_no_text}
use Rattle.play_core.proofs.fault_laws.faulty_bytes_are_no_text.Goals as goal

pub returns : goal.returns
returns c = faulty_is_no_text
