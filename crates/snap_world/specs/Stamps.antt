-- Internal: stamps that are the same in two lists.
use Rattle.std.specs.Prelude.{◌≡◌, ℕ, ◌+◌, ◌<◌, ◌≤◌, List, length, slice_index_or}

-- Both lists have the n stamps from index i on, and these are equal.
abbrev pub AreSame : List ℕ → List ℕ → ℕ → ℕ → Type 0
AreSame before now i n = (j : ℕ) → i ≤ j → j < i + n → (j < length before) × (j < length now)
    × (slice_index_or before j 0 ≡ slice_index_or now j 0)
