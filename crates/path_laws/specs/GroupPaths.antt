-- Trusted: the paths of the groups of a forest, the index of the group at a path, and which old group each new group
-- is.
use Rattle.std.specs.Prelude.{ℕ, ◌+◌, ◌≡◌, ◌↔◌, List, [], ◌∷◌, ◌++◌, map, length, slice_get, Option, Some, None}
use Rattle.std.specs.Option.{option_map, option_map_or, is_some}
use Rattle.rt_groups.specs.GroupForest.{GroupForest, End, Read, Group}
use Rattle.rt_groups.specs.PreorderGroups.{preorder}
use Rattle.rt_groups.specs.Paths.{Path, GroupKey, sibling, step, occurrence, Found, matching_sibling, inside_of, at_path}

-- The paths of the groups in preorder, after the siblings `seen`. The path of a group inside another begins with the
-- step to the outer one.
abbrev pub paths : List GroupKey → GroupForest → List Path
paths seen End = []
paths seen (Read x rest) = paths seen rest
paths seen (Group site number what inside rest) =
    let here = step site what seen in
    (here ∷ []) ∷ (map (λ p. here ∷ p) (paths [] inside) ++ paths (sibling site what ∷ seen) rest)

-- The forest in which the number of each group is its index in preorder, from k, and the next index.
abbrev pub indexed_forest : ℕ → GroupForest → GroupForest × ℕ
indexed_forest k End = (End, k)
indexed_forest k (Read x rest) = let more = indexed_forest k rest in (Read x more.0, more.1)
indexed_forest k (Group site number what inside rest) =
    let within = indexed_forest (k + 1) inside in
    let more = indexed_forest within.1 rest in
    (Group site k what within.0 more.0, more.1)

-- The number of the group that a lookup found.
abbrev pub number_found : Option Found → Option ℕ
number_found f = option_map (λ g. g.number) f

-- The path of the group at an index in preorder.
abbrev pub path_at : GroupForest → ℕ → Option Path
path_at t i = slice_get (paths [] t) i

-- The index in preorder of the group at a path. None if no group of the forest has the path.
abbrev pub index_at : GroupForest → Path → Option ℕ
index_at t p = number_found (at_path p (indexed_forest 0 t).0)

-- For each group of the new forest, in preorder, the index of the old group with its path.
abbrev pub old_indexes : GroupForest → GroupForest → List (Option ℕ)
old_indexes old new = map (index_at old) (paths [] new)

-- The index in the new forest of the group at an index of the old one: that of the group with the same path. None if
-- the new forest has no group with this path.
abbrev pub new_index : GroupForest → GroupForest → ℕ → Option ℕ
new_index old new i = option_map_or (index_at new) (path_at old i) None

-- For each new group the number of the old group that it is matched with among the old siblings, level by level.
abbrev pub matched_numbers : GroupForest → List GroupKey → GroupForest → List (Option ℕ)
matched_numbers old seen End = []
matched_numbers old seen (Read x rest) = matched_numbers old seen rest
matched_numbers old seen (Group site number what inside rest) =
    let found = matching_sibling (sibling site what) (occurrence (sibling site what) seen) old in
    number_found found
    ∷ (matched_numbers (inside_of found) [] inside ++ matched_numbers old (sibling site what ∷ seen) rest)

-- Each group has a path: the list of paths is as long as the list of groups.
abbrev pub EachGroupHasAPath : Type 0
EachGroupHasAPath = (t : GroupForest) → length (paths [] t) ≡ length (preorder 0 t)

-- A lookup by the path of a group finds this group.
abbrev pub EachPathFindsItsGroup : Type 0
EachPathFindsItsGroup = (t : GroupForest) (i : ℕ) (p : Path) → path_at t i ≡ Some p → index_at t p ≡ Some i

-- The group that a lookup finds at a path has this path.
abbrev pub EachFoundGroupHasThePath : Type 0
EachFoundGroupHasThePath = (t : GroupForest) (i : ℕ) (p : Path) → index_at t p ≡ Some i → path_at t i ≡ Some p

-- No two groups of a forest have one path.
abbrev pub NoTwoGroupsHaveOnePath : Type 0
NoTwoGroupsHaveOnePath = (t : GroupForest) (i j : ℕ) (p : Path) → path_at t i ≡ Some p → path_at t j ≡ Some p → i ≡ j

-- The group at index `i` of the old forest, which has path `p`, is removed exactly if no group of the new forest has
-- this path. Otherwise its new index is that of the group with this path.
pub record FollowsPath (old new : GroupForest) (i : ℕ) (p : Path) : Type 0 where
  pub kept : (j : ℕ) → (new_index old new i ≡ Some j) ↔ (path_at new j ≡ Some p)
  pub removed : (new_index old new i ≡ None) ↔ ((j : ℕ) → path_at new j ≡ Some p → ⊥)

abbrev pub GroupsFollowTheirPaths : Type 0
GroupsFollowTheirPaths = (old new : GroupForest) (i : ℕ) (p : Path) → path_at old i ≡ Some p → FollowsPath old new i p

-- A forest has a group at a path exactly if the lookup of its index finds one.
abbrev pub IndexesAreOfFoundGroups : Type 0
IndexesAreOfFoundGroups = (t : GroupForest) (p : Path) → is_some (index_at t p) ≡ is_some (at_path p t)

-- Matching each new group among the old siblings finds the old group with its path.
abbrev pub MatchingFindsTheOldPath : Type 0
MatchingFindsTheOldPath = (old new : GroupForest)
    → old_indexes old new ≡ matched_numbers (indexed_forest 0 old).0 [] new
