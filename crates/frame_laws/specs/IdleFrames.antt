-- Law: a frame does nothing if no group has read a change.
use Rattle.std.specs.Prelude.{ℕ, List, [], ◌∷◌, ◌≡◌, ◌≤◌, length, false, Some}
use Rattle.rt_values.specs.Maps.{Map, differ, contains}
use Rattle.rt_groups.specs.GroupForest.{asks}
use Rattle.rt_groups.specs.Frames.{LastFrame}
use Rattle.lang_ast.specs.Terms.{Func}
use Rattle.lang_ast.specs.Programs.{Program, root_number}
use Rattle.lang_checks.specs.Numbers.{IsNumberedProgram}
use Rattle.lang_checks.specs.ProgramFaults.{program_faults}
use Rattle.compose_model.specs.Frame.{FrameResult, frame}
use Rattle.recompose_laws.specs.Distinct.{AreDistinct}
use Rattle.recompose_laws.specs.Idle.{unchanged_report}
use Rattle.recompose_laws.specs.Refreshing.{StampsTell}
use Rattle.node_laws.specs.FollowingTrees.{WasComposed}
use Rattle.node_tree.specs.FrameOps.{frame_ops}

-- The result of a frame in the map `m` that keeps all that `k` keeps.
abbrev pub idle_result : LastFrame → Map → FrameResult
idle_result k m = record {
  left = record { seen = Some m; trail = k.trail; next = k.next };
  told = unchanged_report k.trail;
}

-- The second of two frames of one map keeps all that the first left, and reports no work.
abbrev pub SecondFrameIsIdle : Type 0
SecondFrameIsIdle = (functions : List Func) (k : LastFrame) (m : Map) (g : FrameResult) →
    frame functions k m ≡ Some g →
    frame functions g.left m ≡ Some (record { left = g.left; told = unchanged_report g.left.trail })

-- The second of two frames of one map of a checked program makes no call on the applier.
abbrev pub SecondFrameMakesNoCall : Type 0
SecondFrameMakesNoCall = (p : Program) (k : LastFrame) (m : Map) (g : FrameResult) →
    IsNumberedProgram p → program_faults p ≡ [] → WasComposed p.functions (root_number p.functions) k.trail →
    AreDistinct k.trail k.next → frame p.functions k m ≡ Some g → frame_ops g.left g.left.trail ≡ []

-- `AreNotOwed owed xs`: no object of `xs` is owed.
abbrev pub AreNotOwed : List ℕ → List ℕ → Type 0
AreNotOwed owed [] = Unit {0}
AreNotOwed owed (x ∷ xs) = (contains x owed ≡ false) × AreNotOwed owed xs

-- If the map has changed since the last frame only in objects that no group of that frame read, the next frame keeps all
-- that the last one left, and reports no work.
abbrev pub UnreadChangesDoNothing : Type 0
UnreadChangesDoNothing = (functions : List Func) (k : LastFrame) (m n : Map) (g : FrameResult) →
    frame functions k m ≡ Some g → StampsTell m n → length m ≤ length n →
    AreNotOwed (differ (Some m) n) (asks g.left.trail) →
    frame functions g.left n ≡ Some (idle_result g.left n)
