use Rattle.std.proofs.Common.{◌≡◌, ◌++◌, length}
use Rattle.lang_script.specs.Scripts.{written_out}
use Rattle.lang_script.specs.StepCalls.{steps_parts}
use Rattle.play_steps.specs.PartLists.{parts_in, parts_of}
use Rattle.play_steps.proofs.part_lists.add_forms.Given as goal

abbrev pub invariant-loop-form : goal.invariant-loop-form
invariant-loop-form l = parts_in l.parts.items ++ parts_of l.actor (steps_parts (written_out l.rest))
    ≡ parts_in l.fn.parts.items ++ parts_of l.actor (steps_parts (written_out l.forms))

abbrev pub decreases-loop-form : goal.decreases-loop-form
decreases-loop-form l = length l.rest
