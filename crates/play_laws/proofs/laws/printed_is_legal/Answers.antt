use Rattle.play_laws.proofs.Prints.{printed_is_legal}
use Rattle.play_laws.proofs.laws.printed_is_legal.Goals as goal

pub returns : goal.returns
returns g c = printed_is_legal g.P.Policy.rules
