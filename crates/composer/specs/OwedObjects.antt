-- Trusted: the objects that changed since the last frame.
use Rattle.std.specs.Prelude.{ℕ, ◌+◌, List, [], ◌∷◌, set, Bool, true, if◌then◌else◌}

-- Whether every object is owed, the marked objects by increasing number, and the number of state objects.
pub record OwedObjects : Type 0 where
  pub all : Bool
  pub objects : List ℕ
  pub states : ℕ

-- The numbers, from i, of the marks that are set.
abbrev pub marked_numbers : ℕ → List Bool → List ℕ
marked_numbers i [] = []
marked_numbers i (b ∷ bs) = if b then i ∷ marked_numbers (i + 1) bs else marked_numbers (i + 1) bs

-- The marks after these objects are marked.
abbrev pub marks_after : List Bool → List ℕ → List Bool
marks_after marks [] = marks
marks_after marks (x ∷ xs) = marks_after (set marks x true) xs
