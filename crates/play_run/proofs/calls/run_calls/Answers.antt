use Rattle.std.proofs.Common.{◌++◌, ◌∙◌, ap}
use Rattle.lang_script.specs.StepCalls.{call_parts, calls_parts}
use Rattle.play_run.specs.RunOutput.{parts_after}
use Rattle.play_steps.specs.PartLists.{parts_of}
use Rattle.play_run.specs.RunPromise.{job_style, job_functions}
use Rattle.play_steps.proofs.PartsAdded.{parts_append}
use Rattle.play_run.proofs.Sequences.{loop_next, loop_stopped}
use Rattle.play_run.proofs.calls.run_calls.Goals as goal

pub loop-form-preserved : goal.loop-form-preserved
loop-form-preserved g c = record {
  faults = c.in-Ok.ensures.faults ∙ c.loop-form.invariant.faults;
  runs = λ frame r h.
      let run = c.loop-form.invariant.runs frame r h in
      let here = parts_of c.args.actor.number (call_parts c.in-Some.form.now) in
      let rest = parts_of c.args.actor.number (calls_parts c.in-Some.more.now) in
      let split = ap (λ l. parts_of c.args.actor.number (calls_parts l)) c.in-Some.ensures.cases.0
      ∙ parts_append c.args.actor.number (call_parts c.in-Some.form.now) (calls_parts c.in-Some.more.now) in
      let both = loop_next (job_style c.args.actor.job.now c.args.actor.flags) (job_functions c.args.actor.job.now)
      c.args.actor.number frame _ _ _ r run.0 here rest _ _ split run.1 run.2
      (c.in-Ok.ensures.runs frame (parts_after (job_functions c.args.actor.job.now) r run.0) run.2.left) in
      (run.0 ++ here, both.0, both.1);
}

pub returns-in-Err-clause-runs : goal.returns-in-Err-clause-runs
returns-in-Err-clause-runs g c frame r h =
    let run = c.loop-form.invariant.runs frame r h in
    let here = parts_of c.args.actor.number (call_parts c.in-Some.form.now) in
    let rest = parts_of c.args.actor.number (calls_parts c.in-Some.more.now) in
    let split = ap (λ l. parts_of c.args.actor.number (calls_parts l)) c.in-Some.ensures.cases.0
    ∙ parts_append c.args.actor.number (call_parts c.in-Some.form.now) (calls_parts c.in-Some.more.now) in
    loop_stopped (job_style c.args.actor.job.now c.args.actor.flags) (job_functions c.args.actor.job.now)
    c.args.actor.number frame _ _ _ r run.0 here rest _ _ c.in-Err.stop split run.1 run.2
    (c.in-Err.ensures.runs frame (parts_after (job_functions c.args.actor.job.now) r run.0) run.2.left)
