use Rattle.play_run.proofs.Written.{says_behind, says_front}
use Rattle.play_run.proofs.frame.write_good_frame.Goals as goal

pub returns-in-Ok-clause-says : goal.returns-in-Ok-clause-says
returns-in-Ok-clause-says g c k l at =
    says_behind _ _ _ _ _ _ c.in-Ok.ensures.says.all (c.write_composition.ensures.says k l at)

pub returns-in-Err-clause-says : goal.returns-in-Err-clause-says
returns-in-Err-clause-says g c k l at = says_front _ _ _ _ _ _ c.in-Err.ensures.says
