use Rattle.recompose_laws.proofs.Skips.{body_agree}
use Rattle.recompose_laws.proofs.skipping.own_parts_agree.Goals as goal

pub returns : goal.returns
returns c = body_agree
