use Rattle.lang_checks.proofs.Least.{no_answer}
use Rattle.lang_checks.proofs.laws.no_answer_no_fault.Goals as goal

pub returns : goal.returns
returns c = no_answer
