use Rattle.std.proofs.Common.{◌++◌, ◌-◌, ◌∙◌, ◌<◌, ◌≡◌, ap, sym, None, Ok, arith, append-nil, [], refl}
use Rattle.lang_script.specs.Scripts.{repeated_steps}
use Rattle.lang_script.specs.StepCalls.{steps_parts}
use Rattle.play_run.specs.RunOutput.{parts_after}
use Rattle.play_steps.specs.PartLists.{parts_of}
use Rattle.play_run.specs.RunPromise.{job_style, job_functions}
use Rattle.play_steps.proofs.PartsAdded.{parts_append, steps_append, repeated_first}
use Rattle.play_run.proofs.Sequences.{loop_next, loop_stopped, runs_none, runs_same}
use Rattle.play_run.proofs.Written.{says_none}
use Rattle.play_run.proofs.steps.run_repeat.Goals as goal

pub loop-left-init : goal.loop-left-init
loop-left-init g c = record {
  faults = refl;
  runs = λ r h. (
    [],
    refl,
    runs_none (job_style c.args.actor.job.now c.args.actor.flags) (job_functions c.args.actor.job.now)
        c.args.actor.number None _ r (tt {0}) h (says_none _ _),
  );
}

pub loop-left-preserved : goal.loop-left-preserved
loop-left-preserved g c = record {
  faults = c.in-Ok.ensures.faults ∙ c.loop-left.invariant.faults;
  runs = λ r h.
      let run = c.loop-left.invariant.runs r h in
      let test = c.loop-left-test.true in
      let positive : 0 < c.loop-left.left = omega (arith, test) in
      let a = c.args.actor.number in
      let here = parts_of a (steps_parts c.args.steps.now) in
      let rest = parts_of a (steps_parts (repeated_steps (c.loop-left.left - 1) c.args.steps.now)) in
      let split = ap (λ l. parts_of a (steps_parts l)) (repeated_first c.loop-left.left c.args.steps.now positive)
      ∙ ap (parts_of a) (steps_append c.args.steps.now (repeated_steps (c.loop-left.left - 1) c.args.steps.now))
      ∙ parts_append a (steps_parts c.args.steps.now)
      (steps_parts (repeated_steps (c.loop-left.left - 1) c.args.steps.now)) in
      let both = loop_next (job_style c.args.actor.job.now c.args.actor.flags) (job_functions c.args.actor.job.now) a
      None _ _ _ r run.0 here rest _ _ split run.1 run.2
      (c.in-Ok.ensures.runs (parts_after (job_functions c.args.actor.job.now) r run.0) run.2.left) in
      (run.0 ++ here, both.0, both.1);
}

pub returns-in-Err-clause-runs : goal.returns-in-Err-clause-runs
returns-in-Err-clause-runs g c r h =
    let run = c.loop-left.invariant.runs r h in
    let test = c.loop-left-test.true in
    let positive : 0 < c.loop-left.left = omega (arith, test) in
    let a = c.args.actor.number in
    let here = parts_of a (steps_parts c.args.steps.now) in
    let rest = parts_of a (steps_parts (repeated_steps (c.loop-left.left - 1) c.args.steps.now)) in
    let split = ap (λ l. parts_of a (steps_parts l)) (repeated_first c.loop-left.left c.args.steps.now positive)
    ∙ ap (parts_of a) (steps_append c.args.steps.now (repeated_steps (c.loop-left.left - 1) c.args.steps.now))
    ∙ parts_append a (steps_parts c.args.steps.now)
    (steps_parts (repeated_steps (c.loop-left.left - 1) c.args.steps.now)) in
    loop_stopped (job_style c.args.actor.job.now c.args.actor.flags) (job_functions c.args.actor.job.now) a None _ _ _ r
    run.0 here rest _ _ c.in-Err.stop split run.1 run.2
    (c.in-Err.ensures.runs (parts_after (job_functions c.args.actor.job.now) r run.0) run.2.left)

pub returns-clause-runs : goal.returns-clause-runs
returns-clause-runs g c r h =
    let run = c.loop-left.invariant.runs r h in
    let test = c.loop-left-test.false in
    let none : c.loop-left.left ≡ 0 = omega (arith, test) in
    let a = c.args.actor.number in
    runs_same (job_style c.args.actor.job.now c.args.actor.flags) (job_functions c.args.actor.job.now) a None _ _ r
    (Ok (tt {0})) run.0 _
    (sym (append-nil run.0) ∙ ap (λ n. run.0 ++ parts_of a (steps_parts (repeated_steps n c.args.steps.now))) (sym none)
    ∙ run.1) run.2
