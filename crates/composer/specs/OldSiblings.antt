-- Internal: the groups of the last frame that new groups are matched with.
use Rattle.std.specs.Prelude.{ℕ, ◌≡◌, ◌+◌, ◌==◌, ◌&&◌, ◌<◌, nat_lt, List, [], ◌∷◌, drop, length, map, Bool, Box, Option, Some, None, if◌then◌else◌}
use Rattle.rt_groups.specs.declared.groups.Group.{Group}
use Rattle.rt_groups.specs.Paths.{GroupKey, same_sibling}
use Rattle.slot_table.specs.TableGroups.{group_at}
use Rattle.slot_table.specs.ReaderStates.{group_key}
use Rattle.group_keys.specs.Queues.{queue_of}
use Rattle.group_keys.specs.declared.queues.SiblingQueues.{SiblingQueues}
use Rattle.composer.specs.OwedObjects.{OwedObjects}

-- The groups of the last frame in preorder, and what is owed since that frame.
pub record LastFrameGroups : Type 0 where
  pub groups : List Group
  pub owed : OwedObjects

-- A group of the last frame: all groups of that frame in preorder, and its index among them.
pub record KeyInfo : Type 0 where
  pub groups : List Group
  pub index : ℕ

-- The group of the last frame at the index.
abbrev pub old_group : KeyInfo → Group
old_group k = group_at k.groups k.index

-- The group that was found is one of these groups.
abbrev pub IsFoundIn : List Group → Option KeyInfo → Type 0
IsFoundIn groups None = Unit {0}
IsFoundIn groups (Some k) = k.groups ≡ groups

-- The groups of the last frame after a group, in preorder. The groups inside the group come first.
abbrev pub groups_after : KeyInfo → List Group
groups_after k = drop (k.index + 1) k.groups

-- The site and the key of a group.
abbrev pub sibling_key : Group → GroupKey
sibling_key g = record { site = g.site; key = group_key g.what }

-- The indexes, from i, of the groups at a depth with the site and the key of s, up to the first group that is less
-- deep.
abbrev pub sibling_indexes : GroupKey → ℕ → ℕ → List Group → List ℕ
sibling_indexes s depth i [] = []
sibling_indexes s depth i (g ∷ gs) =
    if g.depth == depth
    then (if same_sibling (sibling_key g) s then i ∷ sibling_indexes s depth (i + 1) gs
    else sibling_indexes s depth (i + 1) gs)
    else (if nat_lt depth g.depth then sibling_indexes s depth (i + 1) gs else [])

-- The indexes of the siblings if the first group has this depth, else no index.
abbrev pub level_indexes : GroupKey → ℕ → ℕ → List Group → List ℕ
level_indexes s depth i [] = []
level_indexes s depth i (g ∷ gs) = if g.depth == depth then sibling_indexes s depth i (g ∷ gs) else []

-- Whether index i is that of a group of this depth.
abbrev pub is_level : List Group → ℕ → ℕ → Bool
is_level groups depth i = nat_lt i (length groups) && ((group_at groups i).depth == depth)

-- The groups at these indexes.
abbrev pub infos_at : List Group → List ℕ → List KeyInfo
infos_at groups indexes = map (λ i. record { groups = groups; index = i }) indexes

-- The groups directly inside an old group with this site and key.
abbrev pub inner_siblings : KeyInfo → GroupKey → List KeyInfo
inner_siblings k s = infos_at k.groups (level_indexes s ((old_group k).depth + 1) (k.index + 1) (groups_after k))

-- The groups directly inside the old group that was found, with this site and key.
abbrev pub found_siblings : Option KeyInfo → GroupKey → List KeyInfo
found_siblings None s = []
found_siblings (Some k) s = inner_siblings k s

-- The queued indexes of the old siblings with this site and key. There are no queues while new groups come in the order
-- of the old ones.
abbrev pub indexes_in : {Z : Type 0} → Option (Box SiblingQueues Z) → GroupKey → List ℕ
indexes_in None s = []
indexes_in (Some queues) s = queue_of queues.value s

-- Whether each number is the index of a group.
abbrev pub AreInside : List Group → List ℕ → Type 0
AreInside groups [] = Unit {0}
AreInside groups (i ∷ is) = (i < length groups) × AreInside groups is
