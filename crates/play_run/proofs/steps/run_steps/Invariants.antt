use Rattle.std.proofs.Common.{◌≡◌, ◌++◌, length, List, None, Ok}
use Rattle.lang_script.specs.StepCalls.{ActorPart, steps_parts}
use Rattle.play_run.specs.RunOutput.{Run}
use Rattle.play_steps.specs.PartLists.{parts_of}
use Rattle.play_run.specs.RunPromise.{job_style, job_functions}
use Rattle.play_run.specs.RunState.{IsRun, RunsAt}
use Rattle.play_run.proofs.steps.run_steps.Given as goal

abbrev pub invariant-loop-step : goal.invariant-loop-step
invariant-loop-step g l = record {
  faults : g.K.Sink.faults l.sink ≡ g.K.Sink.faults l.fn.sink;
  runs : (r : Run) → IsRun (job_functions l.actor.job.now) g.V.Versions.stands g.V.Versions.log l.fn.world l.fn.memory
      l.actor.number None r →
      (done : List ActorPart) × (done ++ parts_of l.actor.number (steps_parts l.rest)
      ≡ parts_of l.actor.number (steps_parts l.steps))
      × RunsAt {T = Unit {0}} (job_style l.actor.job.now l.actor.flags) (job_functions l.actor.job.now)
      g.V.Versions.stands g.V.Versions.log l.actor.number done l.world l.memory None (g.K.Sink.written l.fn.sink)
      (g.K.Sink.written l.sink) r (Ok tt);
}

abbrev pub decreases-loop-step : goal.decreases-loop-step
decreases-loop-step g l = length l.rest
