-- Internal: the members by name, from the names that are open and their members.
use Rattle.std.specs.Prelude.{◌≡◌, ℕ, zero, suc, ◌<◌, ◌==◌, true, if◌then◌else◌, List, [], ◌∷◌, ◌++◌, length}
use Rattle.rt_values.specs.Maps.{contains}
use Rattle.snap_ids.specs.IdLists.{IsRising}
use Rattle.snap_nested.specs.Members.{no_member}
use Rattle.snap_nested.specs.declared.family.Member.{Member}

-- The member of the name. A name that is not open has none.
abbrev pub member_of : List ℕ → List Member → ℕ → Member
member_of [] os n = no_member
member_of (x ∷ ns) [] n = no_member
member_of (x ∷ ns) (m ∷ os) n = if x == n then m else member_of ns os n

-- The members of the names below `count`.
abbrev pub by_name : ℕ → List ℕ → List Member → List Member
by_name zero ns os = []
by_name (suc count) ns os = by_name count ns os ++ member_of ns os count ∷ []

-- There is one member for each open name, the names are in order, and they are below `count`.
pub record AreListed (count : ℕ) (ns : List ℕ) (os : List Member) : Type 0 where
  pub many : length os ≡ length ns
  pub rising : IsRising ns
  pub within : (n : ℕ) → contains n ns ≡ true → n < count
