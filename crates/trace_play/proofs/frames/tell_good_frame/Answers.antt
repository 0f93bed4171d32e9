use Rattle.std.proofs.Common.{[], append-nil}
use Rattle.trace_play.proofs.frames.tell_good_frame.Goals as goal

-- The line was written whole before memory ran out.
pub returns-in_default-clause-says : goal.returns-in_default-clause-says
returns-in_default-clause-says g c before after k l last at trail = record {
  all = tt;
  part = (_, [], append-nil _, (c.in-Ok.ensures.says before after k l last at trail).all);
}
