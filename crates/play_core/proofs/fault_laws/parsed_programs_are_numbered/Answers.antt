use Rattle.play_core.proofs.Numbers.{numbered}
use Rattle.play_core.proofs.fault_laws.parsed_programs_are_numbered.Goals as goal

pub returns : goal.returns
returns c = numbered
