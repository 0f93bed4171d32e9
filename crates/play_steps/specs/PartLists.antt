-- Internal: the parts that a list in memory represents.
use Rattle.std.specs.Prelude.{ℕ, List, map}
use Rattle.lang_script.specs.StepCalls.{Part, ActorPart, of_actor}
use Rattle.play_steps.specs.ActorNotes.{part_of}
use Rattle.play_steps.specs.declared.parts.ActorStep.{ActorStep}

-- The part of an actor that a value in memory represents.
abbrev pub step_in : ActorStep → ActorPart
step_in s = of_actor s.actor (part_of s.part)

-- The parts that a list in memory represents, in order.
abbrev pub parts_in : List ActorStep → List ActorPart
parts_in steps = map step_in steps

-- Parts of one actor.
abbrev pub parts_of : ℕ → List Part → List ActorPart
parts_of actor parts = map (of_actor actor) parts
