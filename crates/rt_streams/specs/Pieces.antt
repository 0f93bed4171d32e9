-- Internal: what was read before each piece of a whole read, and what is left after the piece that stops it.
use Rattle.std.specs.Prelude.{◌≡◌, ℕ, ◌+◌, ◌<◌, ◌≤◌, ◌↔◌, List, length, Some}
use Rattle.std.specs.declared.option.Option.{Option}
use Rattle.std.specs.Io.KnownBytes.{Consumes}
use Rattle.rt_streams.specs.Streams.{Rose, LosesFront, rise}
use Rattle.rt_streams.specs.declared.source.ReadStop.{ReadStop}
use Rattle.rt_streams.specs.declared.source.ReadStop.TheVariants.{ReadFault, TooLong}

-- A source: the bytes that are left, where they are known, the number of bytes taken and the number of faults.
pub record SourceState : Type 0 where
  pub left : Option (List ℕ)
  pub taken : ℕ
  pub faults : ℕ

-- The source with these bytes left and these two numbers.
abbrev pub state_of : Option (List ℕ) → ℕ → ℕ → SourceState
state_of left taken faults = record { left = left; taken = taken; faults = faults }

-- Exactly these bytes were read, which are at most `limit`, and no read failed.
pub record HasRead (limit : ℕ) (before now : SourceState) (all : List ℕ) : Type 0 where
  pub within : length all ≤ limit
  pub bytes : Consumes before.left now.left all
  pub counts : rise before.taken now.taken ≡ length all
  pub clean : now.faults ≡ before.faults

-- Reading stopped with this error before the end of the input.
pub record StopsReading (limit : ℕ) (before now : SourceState) (stop : ReadStop) : Type 0 where
  pub too_long : (stop ≡ TooLong) ↔ (limit < rise before.taken now.taken)
  pub at_most : rise before.taken now.taken ≤ limit + 1
  pub told : (bytes : List ℕ) → before.left ≡ Some bytes → rise before.taken now.taken ≤ length bytes
  pub gone : LosesFront before.left now.left (rise before.taken now.taken)
  pub stopped : (stop ≡ ReadFault → ⊥) → now.faults ≡ before.faults
  pub fault : stop ≡ ReadFault → Rose before.faults now.faults
  pub later : before.faults ≤ now.faults
