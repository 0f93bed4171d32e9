-- Trusted: the objects that snapshots wrote, by name.
use Rattle.std.specs.Prelude.{◌≡◌, ◌≢◌, ℕ, nat_lt, Bool, true, false, List, [], ◌∷◌, ◌++◌, ◌==◌, length, if◌then◌else◌}
use Rattle.rt_values.specs.Maps.{with_member}
use Rattle.snap_ids.specs.IdLists.{IsRising}

-- The list of the name. A name without a list wrote nothing.
abbrev pub noted_by : List ℕ → List (List ℕ) → ℕ → List ℕ
noted_by [] ls n = []
noted_by (x ∷ ns) [] n = []
noted_by (x ∷ ns) (l ∷ ls) n = if x == n then l else noted_by ns ls n

abbrev pub noted_of : List ℕ × List (List ℕ) → ℕ → List ℕ
noted_of notes n = noted_by notes.0 notes.1 n

-- There is one list for each name, and the names are in order.
pub record AreNotes (ns : List ℕ) (ls : List (List ℕ)) : Type 0 where
  pub many : length ls ≡ length ns
  pub rising : IsRising ns

-- The object is in the list of the name, unless this is global's. The other lists are the same.
pub record IsNoted (old new : List ℕ × List (List ℕ)) (name x : ℕ) (is_new : Bool) : Type 0 where
  pub here : noted_of new name
      ≡ (if nat_lt 0 name then with_member x (noted_of old name) else noted_of old name)
  pub added : is_new ≡ true → noted_of new name ≡ noted_of old name ++ x ∷ []
  pub same : is_new ≡ false → noted_of new name ≡ noted_of old name
  pub others : (n : ℕ) → n ≢ name → noted_of new n ≡ noted_of old n
