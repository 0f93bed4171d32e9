-- Internal: counts of what is left of a list, with the sums of pairs above them.
use Rattle.std.specs.Prelude.{◌≡◌, ℕ, ◌+◌, ◌-◌, ◌/◌, List, [], ◌∷◌, slice_set, slice_index_or}

-- The sum of all counts.
abbrev pub total : List ℕ → ℕ
total [] = 0
total (x ∷ xs) = x + total xs

-- The sums of neighbouring counts. A last count without a neighbour is left out.
abbrev pub pairs : List ℕ → List ℕ
pairs [] = []
pairs (x ∷ []) = []
pairs (x ∷ (y ∷ ys)) = (x + y) ∷ pairs ys

-- Levels of counts: the counts, then the sums of their pairs, and so on, up to a level whose pairs are no more.
abbrev pub AreLevels : List ℕ → List (List ℕ) → Type 0
AreLevels xs [] = xs ≡ []
AreLevels xs (l ∷ ls) = (l ≡ xs) × AreLevels (pairs xs) ls

abbrev pub first_level : List (List ℕ) → List ℕ
first_level [] = []
first_level (l ∷ ls) = l

-- The levels after 1 is subtracted from the count at an index, and from the sums above it.
abbrev pub levels_after : ℕ → List (List ℕ) → List (List ℕ)
levels_after at [] = []
levels_after at (l ∷ ls) = slice_set l at (slice_index_or l at 0 - 1) ∷ levels_after (at / 2) ls
