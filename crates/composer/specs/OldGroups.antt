-- Internal: how old groups in preorder represent a forest of the last frame.
use Rattle.std.specs.Prelude.{ℕ, ◌+◌, ◌<◌, ◌≡◌, List, [], ◌∷◌, ◌++◌, Option, Some, None, slice_get}
use Rattle.rt_groups.specs.declared.groups.Group.{Group as TableGroup}
use Rattle.rt_groups.specs.GroupForest.{GroupForest}
use Rattle.rt_groups.specs.Paths.{GroupKey, occurrence, Found, matching_sibling}
use Rattle.rt_groups.specs.PreorderGroups.{flat_kind, flat_reads, preorder}
use Rattle.composer.specs.declared.pending.Pending.{Pending}
use Rattle.composer.specs.OldSiblings.{KeyInfo, old_group, groups_after}
use Rattle.composer.specs.Waiting.{waiting_siblings}

-- The next group is less deep.
abbrev pub Ends : ℕ → List TableGroup → Type 0
Ends depth [] = Unit {0}
Ends depth (g ∷ gs) = g.depth < depth

-- The list begins with the groups of a forest at a depth, and the next group is less deep.
pub record Begins (depth : ℕ) (gs : List TableGroup) (t : GroupForest) : Type 0 where
  pub more : List TableGroup
  pub is : gs ≡ preorder depth t ++ more
  pub ends : Ends depth more

-- A group at a depth of the table, and the same group in the forest.
pub record SameGroup (depth : ℕ) (k : KeyInfo) (f : Found) : Type 0 where
  pub depth_is : (old_group k).depth ≡ depth
  pub number : (old_group k).number ≡ f.number
  pub kind : (old_group k).what ≡ flat_kind f.what
  pub reads : (old_group k).reads ≡ flat_reads f.what f.inside
  pub begins : Begins (depth + 1) (groups_after k) f.inside

-- Both are the same group, or neither is a group.
abbrev pub Alike : ℕ → Option KeyInfo → Option Found → Type 0
Alike depth None None = Unit {0}
Alike depth None (Some f) = ⊥
Alike depth (Some k) None = ⊥
Alike depth (Some k) (Some f) = SameGroup depth k f

-- The unmatched old siblings are those of the forest `old` that follow the ones with which the new siblings `seen` were
-- matched.
abbrev pub Fits : ℕ → Pending → GroupForest → List GroupKey → Type 0
Fits depth pending old seen = (s : GroupKey) (n : ℕ)
    → Alike depth (slice_get (waiting_siblings pending s) n) (matching_sibling s (occurrence s seen + n) old)
