use Rattle.std.proofs.Common.{◌≡◌, ◌++◌}
use Rattle.lang_script.specs.Scripts.{repeated_steps}
use Rattle.lang_script.specs.StepCalls.{steps_parts}
use Rattle.play_steps.specs.PartLists.{parts_in, parts_of}
use Rattle.play_steps.proofs.part_lists.add_repeat.Given as goal

abbrev pub invariant-loop-left : goal.invariant-loop-left
invariant-loop-left l = parts_in l.parts.items ++ parts_of l.actor (steps_parts (repeated_steps l.left l.steps))
    ≡ parts_in l.fn.parts.items ++ parts_of l.actor (steps_parts (repeated_steps l.times l.steps))

abbrev pub decreases-loop-left : goal.decreases-loop-left
decreases-loop-left l = l.left
