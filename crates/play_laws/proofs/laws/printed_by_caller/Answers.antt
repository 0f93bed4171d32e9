use Rattle.play_laws.proofs.Prints.{printed_by_caller}
use Rattle.play_laws.proofs.laws.printed_by_caller.Goals as goal

pub returns : goal.returns
returns c = printed_by_caller
