use Rattle.recompose_laws.proofs.Refreshes.{refreshing_is_scratch}
use Rattle.recompose_laws.proofs.laws.refreshing_is_scratch.Goals as goal

pub returns : goal.returns
returns c = refreshing_is_scratch
