use Rattle.std.proofs.Common.{◌++◌, ◌∷◌, [], ◌∙◌, sym, ap, None}
use Rattle.lang_script.specs.StepCalls.{BeginFrame, EndFrame, calls_parts, step_parts}
use Rattle.play_steps.specs.PartLists.{parts_of}
use Rattle.play_run.specs.RunPromise.{job_style, job_functions}
use Rattle.play_run.proofs.Sequences.{runs_same}
use Rattle.play_run.proofs.steps.run_step.Goals as goal

pub returns-in-Call-clause-runs : goal.returns-in-Call-clause-runs
returns-in-Call-clause-runs g c r h =
    runs_same (job_style c.args.actor.job.now c.args.actor.flags) (job_functions c.args.actor.job.now)
    c.args.actor.number None _ _ r c.run_call.result _ _
    (ap (λ s. parts_of c.args.actor.number (step_parts s)) (sym c.in-Call.is)) (c.run_call.ensures.runs None r h)

pub returns-in-Frame-clause-runs : goal.returns-in-Frame-clause-runs
returns-in-Frame-clause-runs g c r h =
    runs_same (job_style c.args.actor.job.now c.args.actor.flags) (job_functions c.args.actor.job.now)
    c.args.actor.number None _ _ r c.run_frame.result _ _
    (ap (λ s. parts_of c.args.actor.number (step_parts s)) (sym c.in-Frame.is)) (c.run_frame.ensures.runs r h)

pub returns-in-FrameDuring-clause-runs : goal.returns-in-FrameDuring-clause-runs
returns-in-FrameDuring-clause-runs g c r h =
    runs_same (job_style c.args.actor.job.now c.args.actor.flags) (job_functions c.args.actor.job.now)
    c.args.actor.number None _ _ r c.run_frame-in-FrameDuring.result _ _
    (ap (λ ds. parts_of c.args.actor.number (BeginFrame ∷ (calls_parts ds ++ EndFrame ∷ []))) c.items.ensures
    ∙ ap (λ s. parts_of c.args.actor.number (step_parts s)) (sym c.in-FrameDuring.is))
    (c.run_frame-in-FrameDuring.ensures.runs r h)
