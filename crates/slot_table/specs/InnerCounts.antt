-- Internal: how many groups are inside each group, and the open groups of a reader by their indexes. No public clause
-- cites this module.
use Rattle.std.specs.Prelude.{ℕ, ◌+◌, ◌<◌, List, [], ◌∷◌, length, map, drop, nat_le, slice_index_or, if◌then◌else◌}
use Rattle.rt_values.specs.Values.{no_value}
use Rattle.rt_groups.specs.declared.groups.Group.{Group}
use Rattle.rt_groups.specs.declared.groups.GroupKind.TheVariants as what
use Rattle.rt_groups.specs.PreorderGroups.{flat_group}
use Rattle.slot_table.specs.declared.storage.GroupHead.{GroupHead}
use Rattle.slot_table.specs.ReaderStates.{OpenGroup, after_deep}

-- The leading groups of at least this depth.
abbrev pub leading_deep : ℕ → List Group → List Group
leading_deep depth [] = []
leading_deep depth (g ∷ gs) = if nat_le depth g.depth then g ∷ leading_deep depth gs else []

-- For each group the number of groups inside it.
abbrev pub inner_counts : List Group → List ℕ
inner_counts [] = []
inner_counts (g ∷ gs) = length (leading_deep (g.depth + 1) gs) ∷ inner_counts gs

-- Groups with these heads, of which only the depths count: each is a key group of the default value.
abbrev pub bare_groups : List GroupHead → List Group
bare_groups hs = map (λ h. flat_group h.depth h.site h.number (what.Key no_value) []) hs

-- The open groups with the first group of the list as the innermost, if the list has a group.
abbrev pub with_opened : List Group → List OpenGroup → List OpenGroup
with_opened [] os = os
with_opened (g ∷ gs) os = record { group = g; after = after_deep (g.depth + 1) gs } ∷ os

-- The open groups of a reader, by their indexes from the outermost on, inside the open groups `os`.
abbrev pub open_groups_at : List Group → List OpenGroup → List ℕ → List OpenGroup
open_groups_at groups os [] = os
open_groups_at groups os (i ∷ is) = open_groups_at groups (with_opened (drop i groups) os) is

-- Each number is the index of a group.
abbrev pub AreIndexes : List Group → List ℕ → Type 0
AreIndexes groups is = (k d : ℕ) → k < length is → slice_index_or is k d < length groups
