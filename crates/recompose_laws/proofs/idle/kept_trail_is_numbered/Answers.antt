use Rattle.recompose_laws.proofs.Idles.{kept_is_numbered}
use Rattle.recompose_laws.proofs.idle.kept_trail_is_numbered.Goals as goal

pub returns : goal.returns
returns c = kept_is_numbered
