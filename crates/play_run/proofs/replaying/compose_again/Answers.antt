use Rattle.std.proofs.Common.{Some}
use Rattle.recomposer.specs.FrameContracts.{frame_result}
use Rattle.play_run.proofs.CallLines.{nothing_said}
use Rattle.play_run.proofs.Written.{anyway}
use Rattle.play_run.proofs.replaying.compose_again.Goals as goal

pub returns-in-Ok-clause-says : goal.returns-in-Ok-clause-says
returns-in-Ok-clause-says g c k m at recorded =
    c.write_frame.ensures.says k (Some m) (frame_result c.args.memory.now.composition.program.now k m)
    (c.in-Ok.ensures.frame.told k m at recorded) (c.in-Ok.ensures.frame.left k m at recorded)
    (c.in-Ok.ensures.frame.calls k m at recorded)

pub returns-in-Ok-clause-left : goal.returns-in-Ok-clause-left
returns-in-Ok-clause-left g c k m at recorded =
    anyway c.write_frame.result (c.in-Ok.ensures.frame.left k m at recorded)

pub returns-in-Ok-clause-program : goal.returns-in-Ok-clause-program
returns-in-Ok-clause-program g c = c.in-Ok.ensures.frame.program

pub returns-in-Err-clause-says : goal.returns-in-Err-clause-says
returns-in-Err-clause-says g c k m at recorded = nothing_said _ _ _

pub returns-in-Err-clause-program : goal.returns-in-Err-clause-program
returns-in-Err-clause-program g c = c.in-Err.ensures.frame.program
