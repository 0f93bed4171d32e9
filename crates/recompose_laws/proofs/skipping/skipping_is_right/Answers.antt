use Rattle.recompose_laws.proofs.Skips.{skipping_is_right}
use Rattle.recompose_laws.proofs.skipping.skipping_is_right.Goals as goal

pub returns : goal.returns
returns c = skipping_is_right
