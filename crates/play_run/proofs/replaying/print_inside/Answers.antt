use Rattle.std.proofs.Common.{◌∙◌, refl, sym, Some}
use Rattle.play_run.specs.RunPromise.{job_style}
use Rattle.play_run.specs.ReplayState.{as_open}
use Rattle.play_run.proofs.Replays.{plays_quiet, plays_stopped, plays_end, plays_end_stopped, stays_open, composed_at, reads_agree, view_now}
use Rattle.play_run.proofs.replaying.print_inside.Goals as goal

pub returns-then-not-is_dispose-clause-plays : goal.returns-then-not-is_dispose-clause-plays
returns-then-not-is_dispose-clause-plays g c s h legal turn printed =
    let quiet = stays_open (as_open c.args.frame) s c.args.call.now h
    (sym c.is_dispose.ensures ∙ c.if-not-is_dispose.true) turn in
    plays_quiet s c.args.call.now (job_style c.args.job.now c.args.flags) (Some c.args.frame) _ _ legal h printed
    quiet.0 quiet.1 refl refl c.in-Ok.ensures.says.all

pub returns-in-Ok-compose_again-clause-plays : goal.returns-in-Ok-compose_again-clause-plays
returns-in-Ok-compose_again-clause-plays g c s h legal turn printed =
    let f = as_open c.args.frame in
    let m = view_now f s h in
    let ends = sym c.is_dispose.ensures ∙ c.if-not-is_dispose.false in
    let at = composed_at f s h in
    let agree = reads_agree f s h in
    let composed = c.in-Ok-compose_again.ensures in
    plays_end f s h (job_style c.args.job.now c.args.flags) _ _ _ c.args.call.now legal ends turn
    c.in-Ok.ensures.says.all _ (composed.says s.kept m at (h.recorded.new, agree))
    (composed.left s.kept m at (h.recorded.new, agree))
    composed.program composed.given composed.reads

pub returns-in-Err-compose_again-clause-plays : goal.returns-in-Err-compose_again-clause-plays
returns-in-Err-compose_again-clause-plays g c s h legal turn printed =
    let f = as_open c.args.frame in
    let ends = sym c.is_dispose.ensures ∙ c.if-not-is_dispose.false in
    plays_end_stopped f s h (job_style c.args.job.now c.args.flags) _ _ _ c.args.call.now legal ends turn
    c.in-Ok.ensures.says.all _ c.in-Err-compose_again.stop
    (c.in-Err-compose_again.ensures.says s.kept (view_now f s h) (composed_at f s h) (h.recorded.new, reads_agree f s h))

pub returns-in-Err-clause-plays : goal.returns-in-Err-clause-plays
returns-in-Err-clause-plays g c s h legal turn printed =
    plays_stopped s c.args.call.now (job_style c.args.job.now c.args.flags) (Some (as_open c.args.frame)) c.in-Err.stop
    _ _ printed c.in-Err.ensures.says
