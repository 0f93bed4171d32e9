use Rattle.std.proofs.Common.{◌≡◌, ◌++◌, length, List, None, Ok}
use Rattle.lang_script.specs.StepCalls.{ActorPart, script_parts}
use Rattle.play_run.specs.RunOutput.{Run}
use Rattle.play_run.specs.RunPromise.{job_style, job_functions}
use Rattle.play_run.specs.RunState.{IsRun, RunsAt}
use Rattle.play_run.proofs.steps.run_do_forms.Given as goal

abbrev pub invariant-loop-form : goal.invariant-loop-form
invariant-loop-form g l = record {
  faults : g.K.Sink.faults l.sink ≡ g.K.Sink.faults l.fn.sink;
  runs : (r : Run) → IsRun (job_functions l.job) g.V.Versions.stands g.V.Versions.log l.fn.world l.fn.memory 0 None r →
      (done : List ActorPart) × (done ++ script_parts l.job.script.actors.items l.rest
      ≡ script_parts l.job.script.actors.items l.job.script.forms.items)
      × RunsAt {T = Unit {0}} (job_style l.job l.flags) (job_functions l.job) g.V.Versions.stands g.V.Versions.log 0
      done l.world l.memory None (g.K.Sink.written l.fn.sink) (g.K.Sink.written l.sink) r (Ok tt);
}

abbrev pub decreases-loop-form : goal.decreases-loop-form
decreases-loop-form g l = length l.rest
