-- Internal: what a command writes for a source text, and the status that it returns.
use Rattle.std.specs.Prelude.{◌≡◌, ◌≤◌, ℕ, Bool, List, length, Option, Result, Ok, Err}
use Rattle.std.specs.Io.KnownBytes.{Consumes, IsAtEnd}
use Rattle.rt_streams.specs.Streams.{rise}
use Rattle.play_run.specs.RunPromise.{WritesBytes}
use Rattle.play_run.specs.declared.write_lines.Stop.{Stop}
use Rattle.play_run.specs.declared.write_lines.Stop.TheVariants as stop
use Rattle.play_core.specs.Texts.{IsInput, input_limit}
use Rattle.play_core.specs.Faults.{IsFault}
use Rattle.play_core.specs.Promise.{Streams}
use Rattle.play_core.specs.declared.fault.Fault.{Fault}
use Rattle.play_core.specs.declared.text.Input.{Input}
use Rattle.play_core.specs.declared.top.Status.{Status}
use Rattle.play_core.specs.declared.top.Status.TheVariants as status

-- An output that `may` allows was written, or a first part of it.
abbrev pub SaysOutput : {T E : Type 0} → Option (List ℕ) → Option (List ℕ) → (List ℕ → Type 0) → Result T E → Type 0
SaysOutput before now may result = (out : List ℕ) × may out × WritesBytes before now out result

-- The status of a command on a source text.
abbrev pub run_status : {T : Type 0} → Result T Stop → Status
run_status (Ok x) = status.Done
run_status (Err stop.WriteFault) = status.WriteFault
run_status (Err stop.NoMemory) = status.NoMemory

-- The statuses of an input that was read but not parsed.
abbrev pub IsRefusal : Status → Type 0
IsRefusal status.BadInput = Unit {0}
IsRefusal status.WriteFault = Unit {0}
IsRefusal status.NoMemory = Unit {0}
IsRefusal status.Done = ⊥
IsRefusal status.Usage = ⊥
IsRefusal status.ReadFault = ⊥
IsRefusal status.TooLong = ⊥

-- The whole source was read, gave these bytes and was parsed as this input, and nothing was written.
pub record ReadsInput (threads : Bool) (before after : Streams) (bytes : List ℕ) (input : Input) : Type 0 where
  pub consumed : Consumes before.left after.left bytes
  pub end : IsAtEnd after.left
  pub few : length bytes ≤ input_limit
  pub taken : rise before.taken after.taken ≡ length bytes
  pub parsed : IsInput threads bytes input
  pub good : (fault : Fault) → IsFault threads bytes fault → ⊥
  pub written : after.written ≡ before.written
  pub faults : after.write_faults ≡ before.write_faults
