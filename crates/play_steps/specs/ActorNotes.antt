-- Internal: how an actor's memory represents the notes of its own calls.
use Rattle.std.specs.Prelude.{◌≡◌}
use Rattle.lang_script.specs.NamesInMemory.{Holds}
use Rattle.lang_script.specs.StepCalls.{Part, Notes}
use Rattle.lang_script.specs.StepCalls as calls
use Rattle.play_steps.specs.declared.memory.ActorMemory.{ActorMemory}
use Rattle.play_steps.specs.declared.parts.StepPart.{StepPart}
use Rattle.play_steps.specs.declared.parts.StepPart.TheVariants as part

-- The part that a value in memory represents.
abbrev pub part_of : StepPart → Part
part_of (part.Take name kind parent) = calls.Take name.now kind parent.now
part_of (part.Read snapshot object) = calls.Read snapshot.now object
part_of (part.Write snapshot object value) = calls.Write snapshot.now object value.now
part_of (part.WriteSum snapshot object amount) = calls.WriteSum snapshot.now object amount
part_of (part.Apply snapshot) = calls.Apply snapshot.now
part_of (part.Dispose snapshot) = calls.Dispose snapshot.now
part_of part.BeginFrame = calls.BeginFrame
part_of part.EndFrame = calls.EndFrame

-- The memory has the numbers of the snapshot names, the value of the last read and the snapshot of the open frame.
pub record IsNoted (m : ActorMemory) (n : Notes) : Type 0 where
  pub has_names : Holds m.names n.names
  pub has_value : m.value ≡ n.value
  pub has_frame : m.frame ≡ n.frame
