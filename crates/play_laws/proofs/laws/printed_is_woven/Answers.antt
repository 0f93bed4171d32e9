use Rattle.play_laws.proofs.Prints.{printed_is_woven}
use Rattle.play_laws.proofs.laws.printed_is_woven.Goals as goal

pub returns : goal.returns
returns g c = printed_is_woven g.P.Policy.rules
