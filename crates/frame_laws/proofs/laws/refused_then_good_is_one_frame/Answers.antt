use Rattle.frame_laws.proofs.RefusedFrames.{refused_then_good_is_one_frame}
use Rattle.frame_laws.proofs.laws.refused_then_good_is_one_frame.Goals as goal

pub returns : goal.returns
returns g c = refused_then_good_is_one_frame g.P.Policy.rules g.met.P.Policy.merge_keeps_type
