-- Internal: old groups that follow each other, in which no call is owed.
use Rattle.std.specs.Prelude.{ℕ, ◌+◌, ◌-◌, ◌++◌, ◌≡◌, ◌≤◌, List, [], ◌∷◌, length, take, drop, Bool, false, ◌||◌}
use Rattle.rt_values.specs.Maps.{Map}
use Rattle.rt_groups.specs.declared.groups.Group.{Group as TableGroup}
use Rattle.rt_groups.specs.GroupForest.{GroupForest}
use Rattle.rt_groups.specs.Frames.{meets}
use Rattle.slot_table.specs.ReaderStates.{after_deep}
use Rattle.slot_table.specs.TableGroups.{group_at}
use Rattle.lang_ast.specs.Terms.{Func}
use Rattle.composer.specs.ComposerState.{ComposerState, skipped_groups}
use Rattle.composer.specs.BesideContracts.{LastComposition, IsOldPart}
use Rattle.composer.specs.OldGroups.{Begins, Ends}
use Rattle.composer.specs.OldSiblings.{LastFrameGroups}

-- Whether a group has an owed object among its reads.
abbrev pub has_owed : List ℕ → List TableGroup → Bool
has_owed owed [] = false
has_owed owed (g ∷ gs) = meets g.reads owed || has_owed owed gs

-- The groups from index i to before index j.
abbrev pub group_run : List TableGroup → ℕ → ℕ → List TableGroup
group_run groups i j = take (j - i) (drop i groups)

-- From index i to before index n no group has an owed object among its reads.
abbrev pub IsQuietUpTo : LastFrameGroups → ℕ → ℕ → Type 0
IsQuietUpTo l i n = (from to : ℕ) → i ≤ from → to ≤ n → to ≤ length l.groups
    → has_owed l.owed.objects (group_run l.groups from to) ≡ false

-- The groups from index i to before index j are at least this deep, and the group at index j, if any, is not.
pub record IsLevelEnd (depth : ℕ) (groups : List TableGroup) (i j : ℕ) : Type 0 where
  pub order : i ≤ j
  pub inside : j ≤ length groups
  pub after : after_deep depth (drop i groups) ≡ drop j groups

-- The state with more groups.
abbrev pub with_run : List TableGroup → ComposerState → ComposerState
with_run gs s = record s { groups = s.groups ++ gs }

-- The old groups that are left inside the groups that are open, the innermost first: a forest at each depth.
pub data Layers : Type 0 where
  NoLayer : Layers
  Layer : (depth : ℕ) → (forest : GroupForest) → (outer : Layers) → Layers

-- The list begins with the groups of the layers, which are at least this deep, and the next group is less deep.
abbrev pub AreLayers : ℕ → Layers → List TableGroup → Type 0
AreLayers depth NoLayer gs = Ends depth gs
AreLayers depth (Layer d t outer) gs = (depth ≤ d) × (b : Begins d gs t) × AreLayers depth outer b.more

-- Each layer is a part of the forest of the last frame.
abbrev pub AreOldParts : LastComposition → List ℕ → Map → Layers → Type 0
AreOldParts l owed m NoLayer = Unit {0}
AreOldParts l owed m (Layer d t outer) = IsOldPart l owed m t × AreOldParts l owed m outer

-- The state after the old groups of the layers are skipped.
abbrev pub skipped_layers : Map → List ℕ → List Func → Layers → ComposerState → ComposerState
skipped_layers m owed functions NoLayer s = s
skipped_layers m owed functions (Layer d t outer) s =
    skipped_layers m owed functions outer (skipped_groups m owed t functions d s)

-- The groups from index i to before index j are the first ones of the layers, `rest` has what is left of the layers
-- then, and skipping the groups keeps them as they are.
pub record QuietWalk (owed : List ℕ) (depth : ℕ) (groups : List TableGroup) (i j : ℕ) (layers : Layers) : Type 0 where
  pub rest : Layers
  pub begins : AreLayers depth rest (drop j groups)
  pub parts : (l : LastComposition) (m : Map) → AreOldParts l owed m layers → AreOldParts l owed m rest
  pub kept : (l : LastComposition) (m : Map) → AreOldParts l owed m layers → (functions : List Func)
      (s : ComposerState) → skipped_layers m owed functions rest (with_run (group_run groups i j) s)
      ≡ skipped_layers m owed functions layers s

-- The group at index i is at this depth and site and has no number, index j is after the groups inside it, and no call
-- is owed from it up to there.
pub record IsQuietGroup (last : LastFrameGroups) (depth site i j : ℕ) : Type 0 where
  pub order : i ≤ j
  pub inside : j ≤ length last.groups
  pub depth_is : (group_at last.groups i).depth ≡ depth
  pub site_is : (group_at last.groups i).site ≡ site
  pub number_is : (group_at last.groups i).number ≡ 0
  pub after : (g : TableGroup) (rest : List TableGroup) → drop i last.groups ≡ g ∷ rest →
      drop j last.groups ≡ after_deep (g.depth + 1) rest
  pub quiet : has_owed last.owed.objects (group_run last.groups i j) ≡ false
