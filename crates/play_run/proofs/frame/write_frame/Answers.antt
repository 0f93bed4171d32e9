use Rattle.std.proofs.Common.{sym, ◌∙◌}
use Rattle.compose_model.specs.Frame.{kept_after}
use Rattle.play_run.proofs.Written.{says_same}
use Rattle.play_run.proofs.Frames.{good_lines}
use Rattle.play_run.proofs.frame.write_frame.Goals as goal

pub returns-in-Some-clause-says : goal.returns-in-Some-clause-says
returns-in-Some-clause-says g c k l good told at made =
    says_same _ _ _ _ _ (good_lines c.args.flags good k c.in-Some.report _ (sym c.in-Some.is ∙ told) made)
    (c.write_good_frame.ensures.says (kept_after k good) l at)
