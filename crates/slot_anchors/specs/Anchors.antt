-- Trusted: anchors as contracts see them.
use Rattle.std.specs.Prelude.{◌≡◌, ℕ, ◌+◌, slice_index_or, List, [], ◌∷◌, nat_eq, Option, Some, None, if◌then◌else◌}
use Rattle.std.specs.Option.{option_eq}

-- For each anchor the index of its group in preorder, None if the group was removed, and for how many more anchors
-- there is spare capacity.
pub record AnchorIndexes : Type 0 where
  pub indexes : List (Option ℕ)
  pub spare : ℕ

-- The index, from j, of the first new group whose old index is i.
abbrev pub first_from : ℕ → ℕ → List (Option ℕ) → Option ℕ
first_from j i [] = None
first_from j i (f ∷ fs) = if option_eq nat_eq f (Some i) then Some j else first_from (j + 1) i fs

-- The index of an anchor's group after an edit, if the list has for each new group its old index.
abbrev pub index_after_edit : List (Option ℕ) → Option ℕ → Option ℕ
index_after_edit olds None = None
index_after_edit olds (Some i) = first_from 0 i olds

-- The second list has for each old group its new index, and the first for each new group its old index.
abbrev pub AreInverse : List (Option ℕ) → List (Option ℕ) → Type 0
AreInverse olds news = (i : ℕ) → slice_index_or news i None ≡ first_from 0 i olds
