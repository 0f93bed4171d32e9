use Rattle.std.proofs.Common.{ap, sym, ◌∙◌, refl, true, false}
use Rattle.rt_groups.specs.Frames.{LastFrame}
use Rattle.rt_groups.specs.PreorderGroups.{preorder}
use Rattle.compose_model.specs.Frame.{kept_after}
use Rattle.play_run.specs.RunPromise.{job_titles, job_functions}
use Rattle.play_run.proofs.Written.{anyway, says_same}
use Rattle.trace_lines.specs.TraceLines.{head_view}
use Rattle.trace_play.proofs.FrameLines.{good_line, refused_line, refused_keeps}
use Rattle.trace_play.proofs.frames.tell_composed.Goals as goal

pub returns-in-Some-clause-says : goal.returns-in-Some-clause-says
returns-in-Some-clause-says g c k l good is at made last =
    let job = c.args.job.now in
    says_same c.tell_good_frame.result _ _ _ _
    (good_line (job_titles job) (job_functions job) (head_view c.args.head.now) k
    (record { json = false; ops = true }) refl good _ _
    (sym c.in-Some.is ∙ is) made)
    (c.tell_good_frame.ensures.says k.trail (kept_after k good).trail (kept_after k good) l last at refl)

pub returns-in-Some-clause-last : goal.returns-in-Some-clause-last
returns-in-Some-clause-last g c k l good is at last = c.tell_good_frame.ensures.last (kept_after k good) l at

pub returns-in-None-clause-says : goal.returns-in-None-clause-says
returns-in-None-clause-says g c k l good is at made last =
    let job = c.args.job.now in
    says_same c.write_refused_frame.result _ _ _ _
    (refused_line (job_titles job) (job_functions job) (head_view c.args.head.now) k good (sym c.in-None.is ∙ is))
    c.write_refused_frame.ensures.says

pub returns-in-None-clause-last : goal.returns-in-None-clause-last
returns-in-None-clause-last g c k l good is at last =
    let job = c.args.job.now in
    anyway c.write_refused_frame.result
    (last ∙ ap (λ (x : LastFrame). preorder 0 x.trail)
    (refused_keeps (job_titles job) (job_functions job) (head_view c.args.head.now) k good (sym c.in-None.is ∙ is)))
