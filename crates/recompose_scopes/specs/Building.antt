-- Internal: how scopes are added, collected and searched. No public clause cites this module.
use Rattle.std.specs.Prelude.{ℕ, ◌≡◌, ◌==◌, ◌≤◌, ◌<◌, List, [], ◌∷◌, ◌++◌, length, slice_index, slice_index_or, Option, Some, None, false, if◌then◌else◌}
use Rattle.rt_values.specs.Maps.{contains}
use Rattle.read_links.specs.LinkLists.{links_with_all, scopes_in}
use Rattle.recompose_scopes.specs.Scopes.{ScopeLists}

-- The scopes with one added for the group at index i with these reads, unless there are no reads.
abbrev pub with_call : ℕ → List ℕ → ScopeLists → ScopeLists
with_call i reads l = if length reads == 0 then l else record {
  anchors = l.anchors ++ Some i ∷ [];
  links = links_with_all (length l.anchors) reads l.links;
}

-- The list of indexes with that of a group appended, if the group exists.
abbrev pub with_place : Option ℕ → List ℕ → List ℕ
with_place None places = places
with_place (Some i) places = places ++ i ∷ []

-- The list of indexes with those of the groups of the scopes appended.
abbrev pub with_places : List (Option ℕ) → List ℕ → List ℕ → List ℕ
with_places anchors [] places = places
with_places anchors (s ∷ scopes) places = with_places anchors scopes (with_place (slice_index_or anchors s None) places)

-- The list of indexes with those of the groups that depend on each of the objects appended.
abbrev pub with_owed : ScopeLists → List ℕ → List ℕ → List ℕ
with_owed l [] places = places
with_owed l (x ∷ objects) places = with_owed l objects (with_places l.anchors (scopes_in x l.links) places)

-- The item of `places` at index k is at least `at`, and no item is at least `at` and less than this item. If there are
-- k items, no item is at least `at`.
pub record Splits (places : List ℕ) (k at : ℕ) : Type 0 where
  pub inside : k ≤ length places
  pub after : k < length places → at ≤ slice_index places k
  pub none : (i : ℕ) → at ≤ i → (k < length places → i < slice_index places k) → contains i places ≡ false
