-- Trusted: the recompose scopes of the calls of a composition.
use Rattle.std.specs.Prelude.{ℕ, ◌≡◌, ◌<◌, List, [], map, slice_index_or, Option, Some, None, true}
use Rattle.rt_values.specs.Maps.{contains}
use Rattle.rt_groups.specs.declared.groups.Group.{Group}
use Rattle.read_links.specs.LinkLists.{scopes_in}

-- For each scope the index of its call's group, and for each object the scopes that depend on it.
pub record ScopeLists : Type 0 where
  pub anchors : List (Option ℕ)
  pub links : List (ℕ × List ℕ)

-- The own reads of each group: those of a call, and none for the other kinds.
abbrev pub own_reads : List Group → List (List ℕ)
own_reads gs = map (λ g. g.reads) gs

-- The own reads of the group at index i.
abbrev pub reads_at : List (List ℕ) → ℕ → List ℕ
reads_at reads i = slice_index_or reads i []

-- The anchor of scope s has index i.
abbrev pub IsAnchored : ScopeLists → ℕ → ℕ → Type 0
IsAnchored l s i = slice_index_or l.anchors s None ≡ Some i

-- Scope s depends on object x.
abbrev pub IsLinked : ScopeLists → ℕ → ℕ → Type 0
IsLinked l s x = contains s (scopes_in x l.links) ≡ true

-- The group at index i has a scope that depends on object x.
pub record HasScope (l : ScopeLists) (i x : ℕ) : Type 0 where
  pub scope : ℕ
  pub anchored : IsAnchored l scope i
  pub linked : IsLinked l scope x

-- Scope s is that of a group with object x among its own reads.
pub record IsScopeOfReader (reads : List (List ℕ)) (l : ScopeLists) (s x : ℕ) : Type 0 where
  pub index : ℕ
  pub anchored : IsAnchored l s index
  pub read : contains x (reads_at reads index) ≡ true

-- The links give each object exactly the scopes of the groups that have it among their own reads, and the anchors give
-- each scope the index of its group. Anchors are in the order of the groups, so a group has at most one scope.
pub record AreScopesOf (reads : List (List ℕ)) (l : ScopeLists) : Type 0 where
  pub all : (i x : ℕ) → contains x (reads_at reads i) ≡ true → HasScope l i x
  pub only : (s x : ℕ) → IsLinked l s x → IsScopeOfReader reads l s x
  pub ordered : (s t i j : ℕ) → IsAnchored l s i → IsAnchored l t j → s < t → i < j
