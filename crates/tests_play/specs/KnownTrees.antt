-- Internal: what a test knows of a composition of one list, and of the tree of its applier.
use Rattle.std.specs.Prelude.{◌≡◌, ◌<◌, ℕ, [], ◌∷◌, Option, Some, None}
use Rattle.rt_values.specs.Maps.{Map}
use Rattle.rt_values.specs.declared.maps.StampedValue.{StampedValue}
use Rattle.rt_groups.specs.Frames.{LastFrame}
use Rattle.node_tree.specs.NodeTrees.{CursorTree}
use Rattle.recomposer.specs.declared.composition.Composition.{Composition}
use Rattle.recomposer.specs.AppliedFrames.{Mirrors}
use Rattle.recomposer.specs.Compositions.{IsAt}

-- The map has one object, with this stamp.
pub record HasOneObject (stamp : ℕ) (m : Map) : Type 0 where
  pub object : StampedValue
  pub is : m ≡ object ∷ []
  pub stamp_is : object.stamp ≡ stamp

-- The watcher's last map, if there is one, has one object with a lower stamp.
abbrev pub IsEarlier : ℕ → Option Map → Type 0
IsEarlier stamp None = Unit {0}
IsEarlier stamp (Some m) = (before : ℕ) × HasOneObject before m × (before < stamp)

-- A frame in a map with this stamp may be next: the watcher's last map is earlier, and if the tree of the applier is
-- known, it is that of the groups that the composition has kept.
pub record IsBefore (stamp : ℕ) (c : Composition) (tree : Option CursorTree) : Type 0 where
  pub kept : LastFrame
  pub last : Option Map
  pub is_at : IsAt c kept last
  pub earlier : IsEarlier stamp last
  pub mirrors : Mirrors tree kept
