use Rattle.std.proofs.Common.{◌≡◌, ◌∷◌, [], ◌∙◌, sym, ap, None, append-nil, rules}
use Rattle.lang_script.specs.Scripts.{written_out, repeated_steps, times_of}
use Rattle.lang_script.specs.StepCalls.{step_parts, steps_parts}
use Rattle.play_steps.specs.PartLists.{parts_of}
use Rattle.play_run.specs.RunPromise.{job_style, job_functions}
use Rattle.play_run.proofs.Sequences.{runs_same}
use Rattle.play_run.proofs.steps.run_form.Goals as goal

pub returns-in-Once-clause-runs : goal.returns-in-Once-clause-runs
returns-in-Once-clause-runs g c r h =
    runs_same (job_style c.args.actor.job.now c.args.actor.flags) (job_functions c.args.actor.job.now)
    c.args.actor.number None _ _ r c.run_step.result _ _
    (ap (parts_of c.args.actor.number) (sym (append-nil (step_parts c.in-Once.step)))
    ∙ ap (λ f. parts_of c.args.actor.number (steps_parts (written_out (f ∷ [])))) (sym c.in-Once.is))
    (c.run_step.ensures.runs r h)

pub returns-in-Repeat-clause-runs : goal.returns-in-Repeat-clause-runs
returns-in-Repeat-clause-runs g c r h =
    let a = c.args.actor.number in
    let times : c.times_of.result ≡ times_of c.in-Repeat.times = search rules in
    runs_same (job_style c.args.actor.job.now c.args.actor.flags) (job_functions c.args.actor.job.now) a None _ _ r
    c.run_repeat.result _ _
    (ap (λ n. parts_of a (steps_parts (repeated_steps n c.items.result.now))) times
    ∙ ap (λ xs. parts_of a (steps_parts (repeated_steps (times_of c.in-Repeat.times) xs))) c.items.ensures
    ∙ ap (λ l. parts_of a (steps_parts l))
    (sym (append-nil (repeated_steps (times_of c.in-Repeat.times) c.in-Repeat.steps)))
    ∙ ap (λ f. parts_of a (steps_parts (written_out (f ∷ [])))) (sym c.in-Repeat.is)) (c.run_repeat.ensures.runs r h)
