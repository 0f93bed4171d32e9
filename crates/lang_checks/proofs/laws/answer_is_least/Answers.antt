use Rattle.lang_checks.proofs.Least.{answer_is_least}
use Rattle.lang_checks.proofs.laws.answer_is_least.Goals as goal

pub returns : goal.returns
returns c = answer_is_least
