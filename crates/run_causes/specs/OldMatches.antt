-- Internal: how the old group of each new group is found, level by level. No public clause cites this module.
use Rattle.std.specs.Prelude.{ℕ, ◌+◌, ◌-◌, ◌<◌, ◌==◌, ◌≡◌, false, nat_lt, List, [], ◌∷◌, ◌++◌, map, length, drop, take, slice_get, slice_set, slice_index_or, Option, Some, None, if◌then◌else◌}
use Rattle.rt_groups.specs.declared.groups.Group.{Group as TableGroup}
use Rattle.rt_groups.specs.GroupForest.{GroupForest, End, Read, Group, how_many}
use Rattle.rt_groups.specs.PreorderGroups.{preorder}
use Rattle.rt_groups.specs.Paths.{GroupKey, sibling, same_sibling}
use Rattle.slot_table.specs.ReaderStates.{group_key, begins_at}
use Rattle.group_keys.specs.Queues.{queue_of}
use Rattle.group_keys.specs.declared.queues.SiblingQueues.{SiblingQueues}

-- The site and the key of a group of a table.
abbrev pub table_key : TableGroup → GroupKey
table_key g = record { site = g.site; key = group_key g.what }

-- The indexes of the siblings of a forest with this site and key. The first group of the forest has index k.
abbrev pub key_indexes : GroupKey → ℕ → GroupForest → List ℕ
key_indexes s k End = []
key_indexes s k (Read x rest) = key_indexes s k rest
key_indexes s k (Group site number what inside rest) =
    let later = key_indexes s ((k + 1) + how_many inside) rest in
    if same_sibling (sibling site what) s then k ∷ later else later

-- The forest inside the group at index i. The first group of the forest has index k. There is nothing inside an index
-- of no group.
abbrev pub inside_at : ℕ → ℕ → GroupForest → GroupForest
inside_at i k End = End
inside_at i k (Read x rest) = inside_at i k rest
inside_at i k (Group site number what inside rest) =
    if i == k then inside else (if nat_lt i ((k + 1) + how_many inside) then inside_at i (k + 1) inside
    else inside_at i ((k + 1) + how_many inside) rest)

-- The groups of a table from index `from` to before index `to` are the siblings of a forest at a depth, with all groups
-- inside them.
pub record AreSiblings (groups : List TableGroup) (depth from to : ℕ) (t : GroupForest) : Type 0 where
  pub more : List TableGroup
  pub is : drop from groups ≡ preorder depth t ++ more
  pub count : to ≡ from + how_many t
  pub ends : begins_at (depth + 1) more ≡ false

-- The indexes of the unmatched old siblings of one level, in order, for each site and key.
abbrev pub Level : Type 0
Level = GroupKey → List ℕ

-- The siblings of a forest whose first group has index k.
abbrev pub level_of : ℕ → GroupForest → Level
level_of k t = λ s. key_indexes s k t

-- The groups directly inside the old group that was found.
abbrev pub inner_level : GroupForest → Option ℕ → Level
inner_level old None = λ s. []
inner_level old (Some i) = level_of (i + 1) (inside_at i 0 old)

-- The level without its first sibling with the site and the key of `key`.
abbrev pub level_without : GroupKey → Level → Level
level_without key level = λ s. if same_sibling key s then drop 1 (level s) else level s

-- The levels of the groups that are open around a group of this depth.
abbrev pub levels_around : List Level → ℕ → List Level
levels_around ls depth = take (depth + 1) ls

-- The innermost level.
abbrev pub innermost_level : List Level → Level
innermost_level ls = slice_index_or ls (length ls - 1) (λ s. [])

-- The old group of the next new group.
abbrev pub found_in : List Level → TableGroup → Option ℕ
found_in ls g = slice_get (innermost_level (levels_around ls g.depth) (table_key g)) 0

-- The levels after the next new group was matched and opened.
abbrev pub levels_after : GroupForest → List Level → TableGroup → List Level
levels_after old ls g =
    let around = levels_around ls g.depth in
    slice_set around (length around - 1) (level_without (table_key g) (innermost_level around))
    ++ inner_level old (found_in ls g) ∷ []

-- The old groups of new groups, and the levels after them.
abbrev pub olds_from : GroupForest → List Level → List TableGroup → List (Option ℕ)
olds_from old ls [] = []
olds_from old ls (g ∷ gs) = found_in ls g ∷ olds_from old (levels_after old ls g) gs

abbrev pub levels_from : GroupForest → List Level → List TableGroup → List Level
levels_from old ls [] = ls
levels_from old ls (g ∷ gs) = levels_from old (levels_after old ls g) gs

-- The level at an index of the list, or no siblings if there is none.
abbrev pub level_at : List Level → ℕ → Level
level_at ls k = slice_index_or ls k (λ s. [])

-- Each index of a level is less than n.
abbrev pub IsBelow : ℕ → Level → Type 0
IsBelow n level = (s : GroupKey) (j i : ℕ) → slice_get (level s) j ≡ Some i → i < n

abbrev pub AreBelow : ℕ → List Level → Type 0
AreBelow n ls = (k : ℕ) → IsBelow n (level_at ls k)

-- The levels that queues hold.
abbrev pub queued_levels : List SiblingQueues → List Level
queued_levels qs = map queue_of qs

-- Each index that was found is less than n.
abbrev pub AreFoundBelow : ℕ → List (Option ℕ) → Type 0
AreFoundBelow n [] = Unit {0}
AreFoundBelow n (None ∷ olds) = AreFoundBelow n olds
AreFoundBelow n (Some i ∷ olds) = (i < n) × AreFoundBelow n olds
