-- Trusted: where the note on a fault points.
use Rattle.std.specs.Prelude.{◌≡◌, ◌≤◌, ◌<◌, ◌+◌, ◌⊎◌, ℕ, List, take, drop}
use Rattle.play_core.specs.declared.fault.Fault.{Fault}
use Rattle.play_core.specs.declared.fault.FaultKind.TheVariants.{Text}
use Rattle.fault_notes.specs.declared.position.Position.{Position}
use Rattle.fault_notes.specs.Lines.{line_after, column_after}
use Rattle.fault_notes.specs.Extents.{form_length}

-- The offset is `at`, or that of another byte of the form that begins at `at`.
abbrev pub IsInside : List ℕ → ℕ → ℕ → Type 0
IsInside bytes at offset = (offset ≡ at) ⊎ ((at ≤ offset) × (offset < at + form_length (drop at bytes)))

-- The position is an offset with its line and its column, both from 1.
pub record IsPosition (bytes : List ℕ) (position : Position) : Type 0 where
  pub line : position.line ≡ line_after 1 (take position.offset bytes)
  pub column : position.column ≡ column_after 1 (take position.offset bytes)

-- The position is inside the form at which the fault is reported, or the fault's own if its kind is `text`.
pub record PointsInto (bytes : List ℕ) (fault : Fault) (position : Position) : Type 0 where
  pub inside : IsInside bytes fault.at position.offset
  pub own : fault.kind ≡ Text → position.offset ≡ fault.at
  pub position_is : IsPosition bytes position
