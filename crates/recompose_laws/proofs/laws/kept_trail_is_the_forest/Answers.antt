use Rattle.recompose_laws.proofs.Plain.{kept_trail_is_the_forest}
use Rattle.recompose_laws.proofs.laws.kept_trail_is_the_forest.Goals as goal

pub returns : goal.returns
returns c = kept_trail_is_the_forest
