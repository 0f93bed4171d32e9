use Rattle.play_run.proofs.Written.{says_behind, says_front}
use Rattle.trace_play.proofs.telling.tell.Goals as goal

pub returns-in-Ok-clause-says : goal.returns-in-Ok-clause-says
returns-in-Ok-clause-says g c =
    says_behind c.tell_history.result _ _ _ _ _ c.in-Ok.ensures.says.all c.tell_history.ensures.says

pub returns-in-Err-clause-says : goal.returns-in-Err-clause-says
returns-in-Err-clause-says g c = says_front c.in-Err.stop c.in-Err.stop _ _ _ _ c.in-Err.ensures.says
