-- Internal: what is known of the calls that the actors of a job made.
use Rattle.std.specs.Prelude.{◌≡◌, false, length}
use Rattle.snap_policy.specs.Table.{table}
use Rattle.snap_api.specs.World.{IsLegal}
use Rattle.lang_script.specs.StepCalls.{script_parts, opening_world}
use Rattle.play_laws.specs.Laws.{CanBeCompleted}
use Rattle.play_laws.specs.PrintedHistory.{printed_history}
use Rattle.play_laws.specs.Woven.{initial_actor, IsWoven}
use Rattle.play_threads.specs.declared.actors.ActorsEnd.{ActorsEnd}
use Rattle.play_run.specs.declared.job.Job.{Job}

-- The history is legal. Its printed calls can be continued to a legal and woven history, and are one if no actor ran
-- out of memory.
pub record AreActorsCalls (job : Job) (end : ActorsEnd) : Type 0 where
  pub part : CanBeCompleted (length job.script.actors.items)
      (script_parts job.script.actors.items job.script.forms.items) (opening_world job.program.states.items)
      (printed_history end.calls.items)
  pub legal : IsLegal table (opening_world job.program.states.items) end.calls.items
  pub woven : end.short ≡ false → IsWoven (length job.script.actors.items)
      (initial_actor (script_parts job.script.actors.items job.script.forms.items)) (printed_history end.calls.items)
