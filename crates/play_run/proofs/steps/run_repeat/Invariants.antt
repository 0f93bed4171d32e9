use Rattle.std.proofs.Common.{◌≡◌, ◌++◌, List, None, Ok}
use Rattle.lang_script.specs.Scripts.{repeated_steps}
use Rattle.lang_script.specs.StepCalls.{ActorPart, steps_parts}
use Rattle.play_run.specs.RunOutput.{Run}
use Rattle.play_steps.specs.PartLists.{parts_of}
use Rattle.play_run.specs.RunPromise.{job_style, job_functions}
use Rattle.play_run.specs.RunState.{IsRun, RunsAt}
use Rattle.play_run.proofs.steps.run_repeat.Given as goal

abbrev pub invariant-loop-left : goal.invariant-loop-left
invariant-loop-left g l = record {
  faults : g.K.Sink.faults l.sink ≡ g.K.Sink.faults l.fn.sink;
  runs : (r : Run) → IsRun (job_functions l.actor.job.now) g.V.Versions.stands g.V.Versions.log l.fn.world l.fn.memory
      l.actor.number None r →
      (done : List ActorPart) × (done ++ parts_of l.actor.number (steps_parts (repeated_steps l.left l.steps))
      ≡ parts_of l.actor.number (steps_parts (repeated_steps l.times l.steps)))
      × RunsAt {T = Unit {0}} (job_style l.actor.job.now l.actor.flags) (job_functions l.actor.job.now)
      g.V.Versions.stands g.V.Versions.log l.actor.number done l.world l.memory None (g.K.Sink.written l.fn.sink)
      (g.K.Sink.written l.sink) r (Ok tt);
}

abbrev pub decreases-loop-left : goal.decreases-loop-left
decreases-loop-left g l = l.left
