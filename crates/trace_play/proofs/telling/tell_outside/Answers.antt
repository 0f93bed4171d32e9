use Rattle.std.proofs.Common.{None}
use Rattle.play_run.specs.RunPromise.{job_titles}
use Rattle.play_run.proofs.PrintedCalls.{reads_none}
use Rattle.trace_play.proofs.CallSteps.{told_outside, told_stopped}
use Rattle.trace_play.proofs.telling.tell_outside.Goals as goal

pub returns-in-Ok-clause-tells : goal.returns-in-Ok-clause-tells
returns-in-Ok-clause-tells g c t h legal =
    told_outside (job_titles c.args.job.now) t c.args.call c.begun_frame.result c.open_frame-name.result _ _ legal h
    c.open_frame-name.ensures.reads c.open_frame-name.ensures.frame c.begun_frame.ensures
    (record {
      taken = c.open_frame-name.ensures.noted;
      refused = c.open_frame-name.ensures.refused;
      program = c.open_frame-name.ensures.program;
    })
    c.open_frame-name.ensures.last c.open_frame-name.ensures.changed c.open_frame-name.ensures.count
    c.in-Ok.ensures.says.all

pub returns-in-Err-clause-tells : goal.returns-in-Err-clause-tells
returns-in-Err-clause-tells g c t h legal =
    told_stopped (job_titles c.args.job.now) t c.args.call None c.in-Err.stop _ _ (reads_none c.args.call.request)
    c.in-Err.ensures.says
