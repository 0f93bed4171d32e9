use Rattle.std.proofs.Common.{◌++◌, ◌∙◌, ap, None}
use Rattle.lang_script.specs.StepCalls.{steps_parts}
use Rattle.std.proofs.Common.{◌∷◌, []}
use Rattle.lang_script.specs.Scripts.{written_out}
use Rattle.play_run.specs.RunOutput.{parts_after}
use Rattle.play_steps.specs.PartLists.{parts_of}
use Rattle.play_run.specs.RunPromise.{job_style, job_functions}
use Rattle.play_steps.proofs.PartsAdded.{parts_append, steps_append, form_first}
use Rattle.play_run.proofs.Sequences.{loop_next, loop_stopped}
use Rattle.play_run.proofs.steps.run_forms.Goals as goal

pub loop-form-preserved : goal.loop-form-preserved
loop-form-preserved g c = record {
  faults = c.in-Ok.ensures.faults ∙ c.loop-form.invariant.faults;
  runs = λ r h.
      let run = c.loop-form.invariant.runs r h in
      let here = parts_of c.args.actor.number (steps_parts (written_out (c.in-Some.form.now ∷ []))) in
      let rest = parts_of c.args.actor.number (steps_parts (written_out c.in-Some.more.now)) in
      let split = ap (λ l. parts_of c.args.actor.number (steps_parts (written_out l))) c.in-Some.ensures.cases.0
      ∙ ap (λ l. parts_of c.args.actor.number (steps_parts l)) (form_first c.in-Some.form.now c.in-Some.more.now)
      ∙ ap (parts_of c.args.actor.number)
      (steps_append (written_out (c.in-Some.form.now ∷ [])) (written_out c.in-Some.more.now))
      ∙ parts_append c.args.actor.number (steps_parts (written_out (c.in-Some.form.now ∷ [])))
      (steps_parts (written_out c.in-Some.more.now)) in
      let both = loop_next (job_style c.args.actor.job.now c.args.actor.flags) (job_functions c.args.actor.job.now)
      c.args.actor.number None _ _ _ r run.0 here rest _ _ split run.1 run.2
      (c.in-Ok.ensures.runs (parts_after (job_functions c.args.actor.job.now) r run.0) run.2.left) in
      (run.0 ++ here, both.0, both.1);
}

pub returns-in-Err-clause-runs : goal.returns-in-Err-clause-runs
returns-in-Err-clause-runs g c r h =
    let run = c.loop-form.invariant.runs r h in
    let here = parts_of c.args.actor.number (steps_parts (written_out (c.in-Some.form.now ∷ []))) in
    let rest = parts_of c.args.actor.number (steps_parts (written_out c.in-Some.more.now)) in
    let split = ap (λ l. parts_of c.args.actor.number (steps_parts (written_out l))) c.in-Some.ensures.cases.0
    ∙ ap (λ l. parts_of c.args.actor.number (steps_parts l)) (form_first c.in-Some.form.now c.in-Some.more.now)
    ∙ ap (parts_of c.args.actor.number)
    (steps_append (written_out (c.in-Some.form.now ∷ [])) (written_out c.in-Some.more.now))
    ∙ parts_append c.args.actor.number (steps_parts (written_out (c.in-Some.form.now ∷ [])))
    (steps_parts (written_out c.in-Some.more.now)) in
    loop_stopped (job_style c.args.actor.job.now c.args.actor.flags) (job_functions c.args.actor.job.now)
    c.args.actor.number None _ _ _ r run.0 here rest _ _ c.in-Err.stop split run.1 run.2
    (c.in-Err.ensures.runs (parts_after (job_functions c.args.actor.job.now) r run.0) run.2.left)
