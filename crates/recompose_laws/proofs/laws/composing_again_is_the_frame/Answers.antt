use Rattle.recompose_laws.proofs.Renewals.{composing_again_is_the_frame}
use Rattle.recompose_laws.proofs.laws.composing_again_is_the_frame.Goals as goal

pub returns : goal.returns
returns c = composing_again_is_the_frame
