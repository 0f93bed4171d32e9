use Rattle.checked_laws.proofs.Ordered.{program_is_ordered}
use Rattle.checked_laws.proofs.laws.program_is_ordered.Goals as goal

pub returns : goal.returns
returns c = program_is_ordered
