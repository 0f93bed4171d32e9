use Rattle.frame_laws.proofs.IdleFrames.{second_frame_makes_no_call}
use Rattle.frame_laws.proofs.laws.second_frame_makes_no_call.Goals as goal

pub returns : goal.returns
returns c = second_frame_makes_no_call
