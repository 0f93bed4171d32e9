use Rattle.std.proofs.Common.{refl, None}
use Rattle.play_run.specs.RunPromise.{job_style}
use Rattle.play_run.proofs.Replays.{printed_outside, plays_stopped, plays_outside}
use Rattle.play_run.proofs.replaying.replay_outside.Goals as goal

pub returns-in-Ok-clause-plays : goal.returns-in-Ok-clause-plays
returns-in-Ok-clause-plays g c s h legal =
    plays_outside _ (job_style c.args.job.now c.args.flags) s h _ _ refl c.begun_frame.result c.note_frame-name.result
    c.args.call legal c.note_frame-name.ensures.frame c.begun_frame.ensures
    (record {
      taken = c.note_frame-name.ensures.noted;
      refused = c.note_frame-name.ensures.refused;
      program = c.note_frame-name.ensures.program;
    })
    c.in-Ok.ensures.says.all

pub returns-clause-plays : goal.returns-clause-plays
returns-clause-plays g c s h legal =
    plays_stopped s c.args.call (job_style c.args.job.now c.args.flags) None c.in-Err.stop _ _
    (printed_outside c.args.call) c.in-Err.ensures.says
