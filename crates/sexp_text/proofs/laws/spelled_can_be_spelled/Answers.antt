use Rattle.sexp_text.proofs.Printed.{spells_can}
use Rattle.sexp_text.proofs.laws.spelled_can_be_spelled.Goals as goal

pub returns : goal.returns
returns c = spells_can
