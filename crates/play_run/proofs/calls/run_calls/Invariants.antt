use Rattle.std.proofs.Common.{◌≡◌, ◌++◌, length, List, ℕ, Option, Ok}
use Rattle.lang_script.specs.StepCalls.{ActorPart, calls_parts}
use Rattle.play_run.specs.RunOutput.{Run}
use Rattle.play_steps.specs.PartLists.{parts_of}
use Rattle.play_run.specs.RunPromise.{job_style, job_functions}
use Rattle.play_run.specs.RunState.{IsRun, RunsAt}
use Rattle.play_run.proofs.calls.run_calls.Given as goal

abbrev pub invariant-loop-form : goal.invariant-loop-form
invariant-loop-form g l = record {
  faults : g.K.Sink.faults l.sink ≡ g.K.Sink.faults l.fn.sink;
  runs : (frame : Option ℕ) (r : Run)
      → IsRun (job_functions l.actor.job.now) g.V.Versions.stands g.V.Versions.log l.fn.world l.fn.memory l.actor.number
      frame r →
      (done : List ActorPart) × (done ++ parts_of l.actor.number (calls_parts l.rest)
      ≡ parts_of l.actor.number (calls_parts l.forms))
      × RunsAt {T = Unit {0}} (job_style l.actor.job.now l.actor.flags) (job_functions l.actor.job.now)
      g.V.Versions.stands g.V.Versions.log l.actor.number done l.world l.memory frame (g.K.Sink.written l.fn.sink)
      (g.K.Sink.written l.sink) r (Ok tt);
}

abbrev pub decreases-loop-form : goal.decreases-loop-form
decreases-loop-form g l = length l.rest
