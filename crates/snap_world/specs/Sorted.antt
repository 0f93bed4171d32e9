-- Internal: the search for readable records in the sorted ids of a chain.
use Rattle.std.specs.Prelude.{◌≡◌, ℕ, suc, ◌<◌, ◌≤◌, Bool, true, false, List, [], length, slice_index_or}
use Rattle.rt_values.specs.Maps.{contains}
use Rattle.snap_ids.specs.IdLists.{IsRising}
use Rattle.snap_nested.specs.Ids.{Ids, valid_for_base}
use Rattle.snap_records.specs.Records.{Rec, Has}
use Rattle.snap_world.specs.declared.searched_ids.Searched.{Searched}

-- The list has the ids of the chain's records in increasing order, and maybe 0.
pub record AreIdsOf (c : List Rec) (order : List ℕ) : Type 0 where
  pub rising : IsRising order
  pub of : (i : ℕ) → contains i order ≡ true → 0 < i → (p : Rec) × (Has c p) × (p.id ≡ i)
  pub all : (p : Rec) → Has c p → contains p.id order ≡ true

-- The last of the first `at` ids is valid, and no later id is. If `at` is 0, no id is valid.
pub record IsLastSeen (sees : ℕ → Bool) (order : List ℕ) (at : ℕ) : Type 0 where
  pub within : at ≤ length order
  pub none : (j : ℕ) → at ≤ j → j < length order → sees (slice_index_or order j 0) ≡ false
  pub seen : (k : ℕ) → suc k ≡ at → sees (slice_index_or order k 0) ≡ true

-- Snapshots own the ids of the chain's records, except 0.
abbrev pub AreRecordsOwned : Ids → List Rec → Type 0
AreRecordsOwned f c = (p : Rec) → Has c p → 0 < p.id → (n : ℕ) × (f.owns n p.id ≡ true)

-- Snapshots own the ids of the list, except 0.
abbrev pub AreOwned : Ids → List ℕ → Type 0
AreOwned f order = (i : ℕ) → contains i order ≡ true → 0 < i → (n : ℕ) × (f.owns n i ≡ true)

-- The list has the own ids among the ids of `order`, in increasing order.
pub record AreOwnIn (owns : ℕ → Bool) (order own : List ℕ) : Type 0 where
  pub rising : IsRising own
  pub of : (i : ℕ) → contains i own ≡ true → (contains i order ≡ true) × (owns i ≡ true)
  pub all : (i : ℕ) → contains i order ≡ true → owns i ≡ true → contains i own ≡ true

-- The highest valid id of the list. If it is 0, no positive id of the list is valid.
pub record IsHighest (sees : ℕ → Bool) (order : List ℕ) (i : ℕ) : Type 0 where
  pub top : (j : ℕ) → contains j order ≡ true → sees j ≡ true → j ≤ i
  pub there : 0 < i → (contains i order ≡ true) × (sees i ≡ true)

-- What a search among the ids of `order` finds for a snapshot.
pub record IsSearched (f : Ids) (order : List ℕ) (n : ℕ) (s : Searched) : Type 0 where
  pub own : AreOwnIn (f.owns n) order s.own
  pub base : AreOwned f order → IsHighest (valid_for_base f n) order s.base

-- What a search finds for a closed snapshot.
abbrev pub no_search : Searched
no_search = record { own = []; base = 0 }

-- What a search found for the live ones among the first names.
abbrev pub AreSearched : Ids → List ℕ → List ℕ → List Searched → Type 0
AreSearched f order names found = (at : ℕ) → at < length found → f.live (slice_index_or names at 0) ≡ true
    → IsSearched f order (slice_index_or names at 0) (slice_index_or found at no_search)

-- A search among the ids of the chain, which snapshots own, found this for the snapshot.
pub record IsFound (f : Ids) (c : List Rec) (n : ℕ) (s : Searched) : Type 0 where
  pub order : List ℕ
  pub ids : AreIdsOf c order
  pub owned : AreOwned f order
  pub found : IsSearched f order n s
