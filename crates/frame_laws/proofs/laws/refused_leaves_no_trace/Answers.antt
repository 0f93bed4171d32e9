use Rattle.frame_laws.proofs.RefusedFrames.{refused_leaves_no_trace}
use Rattle.frame_laws.proofs.laws.refused_leaves_no_trace.Goals as goal

pub returns : goal.returns
returns c = refused_leaves_no_trace
