use Rattle.recompose_laws.proofs.Owed.{owed_is_what_changed}
use Rattle.recompose_laws.proofs.laws.owed_is_what_changed.Goals as goal

pub returns : goal.returns
returns c = owed_is_what_changed
