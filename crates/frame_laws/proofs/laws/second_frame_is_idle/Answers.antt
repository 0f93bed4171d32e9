use Rattle.frame_laws.proofs.IdleFrames.{second_frame_is_idle}
use Rattle.frame_laws.proofs.laws.second_frame_is_idle.Goals as goal

pub returns : goal.returns
returns c = second_frame_is_idle
