-- Internal: the groups of a table from its two gap buffers. No public clause cites this module.
use Rattle.std.specs.Prelude.{◌≡◌, List, [], ◌∷◌, ◌++◌, length, map}
use Rattle.rt_groups.specs.declared.groups.Group.{Group}
use Rattle.rt_groups.specs.PreorderGroups.{flat_group}
use Rattle.slot_table.specs.declared.storage.GroupHead.{GroupHead}
use Rattle.slot_table.specs.SharedSlots.{GroupSlots}
use Rattle.slot_table.specs.TableGroups.{is_node_kind}

-- The groups with these fields and slots.
abbrev pub joined_groups : List GroupHead → List GroupSlots → List Group
joined_groups [] ss = []
joined_groups (h ∷ hs) [] = []
joined_groups (h ∷ hs) (s ∷ ss) = flat_group h.depth h.site h.number s.what s.reads ∷ joined_groups hs ss

-- Each head says whether its group is a node.
abbrev pub KnowNodes : List GroupHead → List GroupSlots → Type 0
KnowNodes hs ss = map (λ h. h.is_node) hs ≡ map (λ s. is_node_kind s.what) ss

-- The heads and the slots are those of the groups.
pub record AreParts (hs : List GroupHead) (ss : List GroupSlots) (groups : List Group) : Type 0 where
  pub joined : joined_groups hs ss ≡ groups
  pub long : length hs ≡ length ss
  pub nodes : KnowNodes hs ss

-- The parts are those of the last group.
pub record IsPopped (h : GroupHead) (s : GroupSlots) (old new : List Group) : Type 0 where
  pub last : old ≡ new ++ flat_group h.depth h.site h.number s.what s.reads ∷ []
  pub node : h.is_node ≡ is_node_kind s.what
