-- The calls of a frame on an applier without a tree, which never fails.
use Rattle.std.proofs.Common.{◌≡◌, true, List, Option, Some, None, Result, Ok, Err, OnOk, OnErr, refl, arith}
use Rattle.rt_groups.specs.Frames.{LastFrame}
use Rattle.compose_model.specs.Frame.{FrameResult}
use Rattle.node_tree.specs.NodeTrees.{CursorTree}
use Rattle.node_tree.specs.declared.ops.Op.{Op}
use Rattle.recomposer.specs.declared.composition.FrameStop.{FrameStop}
use Rattle.recomposer.specs.declared.composition.FrameStop.TheVariants.{TooManyGroups, ApplierFault, Spent, NoMemory}
use Rattle.recomposer.specs.AppliedFrames.{Applies, ops_of, UnlessFault, FaultHasCause}
use Rattle.script_lang.specs.declared.flags.Flags.{Flags}
use Rattle.play_run.specs.RunState.{MadeCalls}

made : (flags : Flags) (k : LastFrame) (good : Option FrameResult) (calls : List Op) → calls ≡ ops_of k good
    → MadeCalls flags k good calls
made flags k None calls is = tt
made flags k (Some good) calls is = λ on. is

-- A good frame with an applier made its calls.
pub calls_made : {U : Type 0} (flags : Flags) (k : LastFrame) (good : Option FrameResult) (calls : List Op)
    (before now : Option CursorTree) (result : Result U FrameStop) → OnOk result (Applies before now calls k good) →
    OnOk result (MadeCalls flags k good calls)
calls_made flags k good calls before now (Ok u) applied = made flags k good calls applied.calls
calls_made flags k good calls before now (Err stop) applied = tt

-- No calls are printed without `--ops`.
pub calls_unseen : {U : Type 0} (flags : Flags) (k : LastFrame) (good : Option FrameResult) (calls : List Op)
    (result : Result U FrameStop) → (flags.ops ≡ true → ⊥) → OnOk result (MadeCalls flags k good calls)
calls_unseen flags k None calls (Ok u) off = tt
calls_unseen flags k (Some good) calls (Ok u) off = λ on. absurd (off on)
calls_unseen flags k good calls (Err stop) off = tt

-- An applier whose count of faults stays 0 does not fail.
pub no_fault : {U : Type 0} (result : Result U FrameStop) → FaultHasCause 0 0 result → result ≡ Err ApplierFault → ⊥
no_fault result cause is = omega (arith, cause.failed is)

-- What holds unless the applier failed holds of any refused frame then.
pub still_same : {U : Type 0} (X : Type 0) (result : Result U FrameStop) → FaultHasCause 0 0 result
    → UnlessFault X result → OnErr result X
still_same X (Ok u) cause x = tt
still_same X (Err ApplierFault) cause x = absurd (no_fault (Err ApplierFault) cause refl)
still_same X (Err TooManyGroups) cause x = x
still_same X (Err Spent) cause x = x
still_same X (Err NoMemory) cause x = x
