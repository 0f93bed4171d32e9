use Rattle.lang_script.proofs.Sequential.{spelled, only}
use Rattle.lang_script.proofs.laws.sequential_is_spelled.Goals as goal

pub returns-clause-spelled : goal.returns-clause-spelled
returns-clause-spelled c = spelled

pub returns-clause-only : goal.returns-clause-only
returns-clause-only c = only
