-- Trusted: the calls of a frame on an applier, and what a frame leaves in the applier's tree.
use Rattle.std.specs.Prelude.{◌≡◌, ◌≤◌, ℕ, List, [], false, Option, Some, None, Result, Ok, Err}
use Rattle.std.specs.Option.{option_map}
use Rattle.rt_streams.specs.Streams.{Rose}
use Rattle.rt_groups.specs.GroupForest.{End}
use Rattle.rt_groups.specs.Nodes.{nodes}
use Rattle.rt_groups.specs.Frames.{LastFrame, is_detached}
use Rattle.compose_model.specs.Frame.{FrameResult}
use Rattle.node_tree.specs.declared.ops.Op.{Op}
use Rattle.node_tree.specs.NodeTrees.{CursorTree, tree_at_root}
use Rattle.node_tree.specs.FrameOps.{frame_ops}
use Rattle.recomposer.specs.declared.composition.Composition.{Composition}
use Rattle.recomposer.specs.declared.composition.FrameStop.{FrameStop}
use Rattle.recomposer.specs.declared.composition.FrameStop.TheVariants.{TooManyGroups, ApplierFault, Spent, NoMemory}

-- The calls of a good frame. A refused frame has none.
abbrev pub ops_of : LastFrame → Option FrameResult → List Op
ops_of k None = []
ops_of k (Some good) = frame_ops k good.left.trail

-- What is kept after a frame whose applier failed: no groups, and the number of the next new node after that frame.
abbrev pub kept_after_fault : LastFrame → Option FrameResult → LastFrame
kept_after_fault k None = k
kept_after_fault k (Some good) = record { seen = None; trail = End; next = good.left.next }

-- The tree that an applier knows is that of the kept groups, and its current node is the unseen root. A detached
-- composition says nothing of the tree.
abbrev pub Mirrors : Option CursorTree → LastFrame → Type 0
Mirrors None k = Unit {0}
Mirrors (Some t) k = is_detached k ≡ false → t ≡ tree_at_root (nodes k.trail)

-- An applier that knows the tree `t` may be called in a frame: `at` holds of a kept state whose tree this is.
pub record IsReady (at : LastFrame → Type 0) (t : CursorTree) : Type 0 where
  pub kept : LastFrame
  pub is_at : at kept
  pub mirrors : Mirrors (Some t) kept

-- An applier may be called in a frame. One that knows no tree always may.
abbrev pub MayCall : Option CursorTree → (LastFrame → Type 0) → Type 0
MayCall None at = Unit {0}
MayCall (Some t) at = IsReady at t

-- The tree that an applier knows after a good frame: that of the new groups, with the unseen root as the current node.
-- A refused frame leaves the tree.
abbrev pub tree_after_frame : Option CursorTree → Option FrameResult → Option CursorTree
tree_after_frame tree None = tree
tree_after_frame tree (Some good) = option_map (λ t. tree_at_root (nodes good.left.trail)) tree

-- A frame with this result after the kept state `k` made the calls that turn the kept tree into the new one. If the
-- tree that the applier knew was the kept one, it is the new one now.
pub record Applies (before now : Option CursorTree) (made : List Op) (k : LastFrame)
    (good : Option FrameResult) : Type 0 where
  pub calls : made ≡ ops_of k good
  pub tree : Mirrors before k → now ≡ tree_after_frame before good

-- A fact of a frame that was refused for any cause except a fault of the applier.
abbrev pub UnlessFault : {U : Type 0} → Type 0 → Result U FrameStop → Type 0
UnlessFault fact (Ok u) = Unit {0}
UnlessFault fact (Err ApplierFault) = Unit {0}
UnlessFault fact (Err TooManyGroups) = fact
UnlessFault fact (Err Spent) = fact
UnlessFault fact (Err NoMemory) = fact

-- The count of an applier's faults did not fall, and rose if the frame stopped for a fault of the applier.
pub record FaultHasCause {U : Type 0} (before now : ℕ) (result : Result U FrameStop) : Type 0 where
  pub later : before ≤ now
  pub failed : result ≡ Err ApplierFault → Rose before now

-- Nothing is owed: no state changed since the last good frame.
abbrev pub OwesNothing : Composition → Type 0
OwesNothing c = (c.owed.all ≡ false) × (c.owed.objects ≡ [])
