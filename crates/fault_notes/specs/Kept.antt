-- Trusted: the bytes that a source keeps of those that another source hands out.
use Rattle.std.specs.Prelude.{◌≡◌, ◌⊎◌, ℕ, ◌%◌, ◌^◌, List, length, Option, Some, None, IfSome, if◌then◌else◌}
use Rattle.std.specs.Io.KnownBytes.{Consumes, append_known}
use Rattle.rt_streams.specs.Streams.{rise}
use Rattle.fault_notes.specs.declared.keeping.Keeping.{Keeping}

-- The bytes that are kept, or none if there was no memory for a copy of a piece.
abbrev pub kept_bytes : {S : Type 0} → Keeping S → Option (List ℕ)
kept_bytes k = if k.is_whole then Some k.kept.items else None

-- A piece is appended to the bytes that are kept, or nothing is kept since there is no memory for the copy.
abbrev pub KeepsPiece : Option (List ℕ) → Option (List ℕ) → List ℕ → Type 0
KeepsPiece before now piece = (now ≡ None) ⊎ (now ≡ append_known before piece)

-- Exactly the bytes `all` were taken from a source since these were left of it and its count was `taken`.
pub record IsTakenSince (left : Option (List ℕ)) (taken : ℕ) (left_now : Option (List ℕ)) (taken_now : ℕ)
    (all : List ℕ) : Type 0 where
  pub bytes : Consumes left left_now all
  pub counts : rise taken taken_now ≡ length all % 2 ^ 64

-- The bytes that are kept, if any, are exactly those that were taken since then.
abbrev pub IsKeptSince : Option (List ℕ) → ℕ → Option (List ℕ) → ℕ → Option (List ℕ) → Type 0
IsKeptSince left taken left_now taken_now kept = IfSome kept (IsTakenSince left taken left_now taken_now)
