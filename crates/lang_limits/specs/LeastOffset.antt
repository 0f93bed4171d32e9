-- Trusted: the least of several offsets.
use Rattle.std.specs.Prelude.{ℕ, min, List, [], ◌∷◌, Option, Some, None}

-- The lesser of an offset, if there is one, and a further offset.
abbrev pub lesser_offset : Option ℕ → ℕ → Option ℕ
lesser_offset None at = Some at
lesser_offset (Some kept) at = Some (min kept at)

-- The least of an offset, if there is one, and further offsets.
abbrev pub least_offset_from : Option ℕ → List ℕ → Option ℕ
least_offset_from kept [] = kept
least_offset_from kept (at ∷ more) = least_offset_from (lesser_offset kept at) more

abbrev pub least : List ℕ → Option ℕ
least offsets = least_offset_from None offsets
