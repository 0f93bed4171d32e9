use Rattle.std.proofs.Common.{◌∙◌, refl, sym, Some}
use Rattle.play_run.specs.RunPromise.{job_titles}
use Rattle.play_run.specs.ReplayState.{as_open}
use Rattle.play_run.proofs.Replays.{stays_open, composed_at, reads_agree}
use Rattle.trace_play.proofs.CallSteps.{told_quiet, told_stopped, told_end, told_end_stopped, shown_now, shown_states}
use Rattle.trace_play.proofs.telling.tell_printed.Goals as goal

pub returns-then-not-is_dispose-clause-tells : goal.returns-then-not-is_dispose-clause-tells
returns-then-not-is_dispose-clause-tells g c t h legal turn out =
    let quiet = stays_open (as_open c.args.frame) t.at c.args.call.now h.replay
    (sym c.is_dispose.ensures ∙ c.if-not-is_dispose.true) turn in
    told_quiet (job_titles c.args.job.now) t c.args.call.now (Some c.args.frame) _ _ legal h out
    quiet.0 quiet.1 (record { composition = refl; reads = refl; last = refl; changed = refl; count = refl })
    c.in-Ok.ensures.says.all

pub returns-in-Ok-tell_frame-clause-tells : goal.returns-in-Ok-tell_frame-clause-tells
returns-in-Ok-tell_frame-clause-tells g c t h legal turn out =
    let f = as_open c.args.frame in
    let titles = job_titles c.args.job.now in
    let ends = sym c.is_dispose.ensures ∙ c.if-not-is_dispose.false in
    let m = shown_now titles f t h in
    let at = composed_at f t.at h.replay in
    let agree = reads_agree f t.at h.replay in
    let new = h.replay.recorded.new in
    let told = c.in-Ok-tell_frame.ensures in
    told_end titles f t h _ _ _ c.args.call.now legal ends turn out
    c.in-Ok.ensures.says.all _ (told.says t.at.kept m at (shown_states titles f t h) agree new h.last)
    (told.left t.at.kept m at agree new) told.program told.given told.reads told.changed told.count
    (told.last t.at.kept m at agree new h.last)

pub returns-in-Err-tell_frame-clause-tells : goal.returns-in-Err-tell_frame-clause-tells
returns-in-Err-tell_frame-clause-tells g c t h legal turn out =
    let f = as_open c.args.frame in
    let titles = job_titles c.args.job.now in
    let ends = sym c.is_dispose.ensures ∙ c.if-not-is_dispose.false in
    told_end_stopped titles f t h _ _ _ c.args.call.now legal ends turn out
    c.in-Ok.ensures.says.all c.in-Err-tell_frame.stop _
    (c.in-Err-tell_frame.ensures.says t.at.kept (shown_now titles f t h) (composed_at f t.at h.replay)
    (shown_states titles f t h) (reads_agree f t.at h.replay) h.replay.recorded.new h.last)

pub returns-in-Err-clause-tells : goal.returns-in-Err-clause-tells
returns-in-Err-clause-tells g c t h legal turn out =
    told_stopped (job_titles c.args.job.now) t c.args.call.now (Some (as_open c.args.frame)) c.in-Err.stop
    _ _ out c.in-Err.ensures.says
