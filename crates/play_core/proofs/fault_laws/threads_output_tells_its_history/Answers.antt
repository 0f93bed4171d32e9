use Rattle.play_core.proofs.PlainNames.{output_tells}
use Rattle.play_core.proofs.fault_laws.threads_output_tells_its_history.Goals as goal

pub returns : goal.returns
returns c = output_tells
