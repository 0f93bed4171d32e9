-- Trusted: the calls of a frame on an applier.
use Rattle.std.specs.Prelude.{List, [], ◌∷◌, ◌++◌, if◌then◌else◌}
use Rattle.rt_groups.specs.GroupForest.{GroupForest}
use Rattle.rt_groups.specs.Nodes.{nodes}
use Rattle.rt_groups.specs.Frames.{LastFrame, is_detached}
use Rattle.node_tree.specs.declared.ops.Op.{Op}
use Rattle.node_tree.specs.declared.ops.Op.TheVariants as op
use Rattle.node_tree.specs.Placing.{ops}

-- The calls on an applier of a frame that keeps this forest after the kept state `k`: the calls that turn the kept
-- node tree into the new tree. If the composition is detached, `clear` comes first.
abbrev pub frame_ops : LastFrame → GroupForest → List Op
frame_ops k trail = (if is_detached k then op.Clear ∷ [] else []) ++ ops (nodes k.trail) (nodes trail)
