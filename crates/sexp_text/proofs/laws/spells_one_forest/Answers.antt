use Rattle.sexp_text.proofs.Complete.{spells_one}
use Rattle.sexp_text.proofs.laws.spells_one_forest.Goals as goal

pub returns : goal.returns
returns c = spells_one
