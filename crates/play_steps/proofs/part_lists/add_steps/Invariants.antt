use Rattle.std.proofs.Common.{◌≡◌, ◌++◌, length}
use Rattle.lang_script.specs.StepCalls.{steps_parts}
use Rattle.play_steps.specs.PartLists.{parts_in, parts_of}
use Rattle.play_steps.proofs.part_lists.add_steps.Given as goal

abbrev pub invariant-loop-step : goal.invariant-loop-step
invariant-loop-step l = parts_in l.parts.items ++ parts_of l.actor (steps_parts l.rest)
    ≡ parts_in l.fn.parts.items ++ parts_of l.actor (steps_parts l.steps)

abbrev pub decreases-loop-step : goal.decreases-loop-step
decreases-loop-step l = length l.rest
