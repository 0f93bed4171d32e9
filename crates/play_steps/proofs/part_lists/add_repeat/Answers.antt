use Rattle.std.proofs.Common.{◌-◌, ap, sym, ◌∙◌, ◌++◌, append_assoc, arith, List}
use Rattle.lang_script.specs.Scripts.{repeated_steps}
use Rattle.lang_script.specs.StepCalls.{ActorPart, steps_parts}
use Rattle.play_steps.specs.PartLists.{parts_in, parts_of}
use Rattle.play_steps.proofs.PartsAdded.{repeat_on}
use Rattle.play_steps.proofs.part_lists.add_repeat.Goals as goal

pub loop-left-preserved : goal.loop-left-preserved
loop-left-preserved c =
    ap (λ (l : List ActorPart). l
    ++ parts_of c.args.actor (steps_parts (repeated_steps (c.loop-left.left - 1) c.args.steps.now))) c.in_ok-add_steps.ensures
    ∙ append_assoc (parts_in c.loop-left.parts.items) (parts_of c.args.actor (steps_parts c.args.steps.now))
    (parts_of c.args.actor (steps_parts (repeated_steps (c.loop-left.left - 1) c.args.steps.now)))
    ∙ sym (ap (λ (l : List ActorPart). parts_in c.loop-left.parts.items ++ l)
    (repeat_on c.args.actor c.loop-left.left c.args.steps.now (omega (arith, c.loop-left-test.true))))
    ∙ c.loop-left.invariant
