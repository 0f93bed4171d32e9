use Rattle.recompose_laws.proofs.Idles.{quiet_part_is_kept}
use Rattle.recompose_laws.proofs.idle.quiet_part_is_kept.Goals as goal

pub returns : goal.returns
returns c = quiet_part_is_kept
