use Rattle.std.proofs.Common.{◌≡◌, ◌++◌, ◌∙◌, [], ap, sym, refl, None, Ok, Err}
use Rattle.lang_script.specs.Scripts.{index_of, written_out}
use Rattle.lang_script.specs.StepCalls.{steps_parts, script_parts}
use Rattle.play_run.specs.RunOutput.{parts_after}
use Rattle.play_steps.specs.PartLists.{parts_of}
use Rattle.play_run.specs.RunPromise.{job_style, job_functions}
use Rattle.play_run.proofs.Sequences.{loop_next, loop_stopped, runs_as, run_as, runs_none}
use Rattle.play_run.proofs.Written.{says_none}
use Rattle.play_run.proofs.steps.run_do_forms.Goals as goal

pub loop-form-init : goal.loop-form-init
loop-form-init g c = record {
  faults = refl;
  runs = λ r h. (
    [],
    ap (script_parts c.args.job.now.script.actors.items) c.as_slice-rest.ensures.value,
    runs_none (job_style c.args.job.now c.args.flags) (job_functions c.args.job.now) 0 None _ r (tt {0}) h
        (says_none _ _),
  );
}

pub loop-form-preserved : goal.loop-form-preserved
loop-form-preserved g c =
    let actors = c.args.job.now.script.actors.items in
    let number : c.index_of-number.result ≡ index_of c.in-Some.form.now.actor.text actors =
    c.index_of-number.ensures ∙ ap (λ b. index_of b c.as_slice-actors.result.now) c.bytes.ensures
    ∙ ap (λ l. index_of c.in-Some.form.now.actor.text l) c.as_slice-actors.ensures.value in
    let here = parts_of c.index_of-number.result (steps_parts (written_out c.items.result.now)) in
    let rest = script_parts actors c.in-Some.more.now in
    let split = ap (script_parts actors) c.in-Some.ensures.cases.0
    ∙ ap (λ n. parts_of n (steps_parts (written_out c.in-Some.form.now.steps)) ++ rest) (sym number)
    ∙ ap (λ xs. parts_of c.index_of-number.result (steps_parts (written_out xs)) ++ rest) (sym c.items.ensures) in
    record {
      faults = c.in-Ok.ensures.faults ∙ c.loop-form.invariant.faults;
      runs = λ r h.
          let run = c.loop-form.invariant.runs r h in
          let ran = c.in-Ok.ensures.runs (parts_after (job_functions c.args.job.now) r run.0)
          (run_as 0 c.index_of-number.result run.2.left) in
          let both = loop_next (job_style c.args.job.now c.args.flags) (job_functions c.args.job.now) 0 None _ _ _ r
          run.0 here rest _ _ split run.1 run.2 (runs_as c.index_of-number.result 0 here _ _ (Ok (tt {0})) ran) in
          (run.0 ++ here, both.0, both.1);
    }

pub returns-in-Err-clause-runs : goal.returns-in-Err-clause-runs
returns-in-Err-clause-runs g c r h =
    let actors = c.args.job.now.script.actors.items in
    let number : c.index_of-number.result ≡ index_of c.in-Some.form.now.actor.text actors =
    c.index_of-number.ensures ∙ ap (λ b. index_of b c.as_slice-actors.result.now) c.bytes.ensures
    ∙ ap (λ l. index_of c.in-Some.form.now.actor.text l) c.as_slice-actors.ensures.value in
    let here = parts_of c.index_of-number.result (steps_parts (written_out c.items.result.now)) in
    let rest = script_parts actors c.in-Some.more.now in
    let split = ap (script_parts actors) c.in-Some.ensures.cases.0
    ∙ ap (λ n. parts_of n (steps_parts (written_out c.in-Some.form.now.steps)) ++ rest) (sym number)
    ∙ ap (λ xs. parts_of c.index_of-number.result (steps_parts (written_out xs)) ++ rest) (sym c.items.ensures) in
    let run = c.loop-form.invariant.runs r h in
    let ran = c.in-Err.ensures.runs (parts_after (job_functions c.args.job.now) r run.0)
    (run_as 0 c.index_of-number.result run.2.left) in
    loop_stopped (job_style c.args.job.now c.args.flags) (job_functions c.args.job.now) 0 None _ _ _ r run.0 here rest _
    _ c.in-Err.stop split run.1 run.2 (runs_as c.index_of-number.result 0 here _ _ (Err c.in-Err.stop) ran)
