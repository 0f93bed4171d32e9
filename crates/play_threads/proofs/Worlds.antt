-- Worlds after histories, and what stays true of the numbers of snapshots.
use Rattle.std.proofs.Common.{inl, inr, ℕ, ◌≤◌, List, [], ◌∷◌, ◌++◌, length, subst, sym, arith, Option, Some, None}
use Rattle.snap_policy.specs.declared.policy.BuiltIn.{BuiltIn}
use Rattle.snap_policy.specs.Table.{table}
use Rattle.snap_policy.specs.TableLaws.{table_merge_keeps_type}
use Rattle.snap_api.proofs.LawsNames.{count_grows}
use Rattle.snap_api.proofs.ValidCalls.{valid_call}
use Rattle.snap_api.specs.World.{World, History, call, world_after}
use Rattle.snap_api.specs.declared.data.Request.{Request}
use Rattle.snap_shared.specs.HistoryEffects.{after_append}
use Rattle.lang_script.specs.SnapshotNames.{NamedNumber}
use Rattle.play_run.proofs.OpenFrames.{few_after, grown}
use Rattle.play_run.specs.RunState.{AreKnown}
use Rattle.play_threads.specs.ActorSteps.{CountsSnapshots, FrameIsApart}

counts_call : (w : World BuiltIn) (a : ℕ) (q : Request) → CountsSnapshots w → CountsSnapshots (call table w a q).0
counts_call w a q c = record {
  some = omega (arith, c.some, grown w a q);
  few = few_after w a q c.few;
  valid = valid_call c.valid table_merge_keeps_type a q;
}

pub counts_after : (w : World BuiltIn) (h : History) → CountsSnapshots w → CountsSnapshots (world_after table w h)
counts_after w [] c = c
counts_after w (e ∷ es) c = counts_after (call table w e.caller e.request).0 es (counts_call w e.caller e.request c)

-- A longer history has no fewer snapshots.
pub longer : (o : World BuiltIn) (h more : History)
    → length (world_after table o h).snapshots ≤ length (world_after table o (h ++ more)).snapshots
longer o h more =
    subst (λ (v : World BuiltIn). length (world_after table o h).snapshots ≤ length v.snapshots)
    (sym (after_append table o h more)) (count_grows table (world_after table o h) more)

pub known_on : (w v : World BuiltIn) (names : List NamedNumber) → length w.snapshots ≤ length v.snapshots
    → AreKnown w names → AreKnown v names
known_on w v names more known other n found =
    elim (known other n found) [ inl below ↦ inl (omega (arith, below, more)) | inr never ↦ inr never ]

pub apart_on : (w v : World BuiltIn) (names : List NamedNumber) (frame : Option ℕ)
    → length w.snapshots ≤ length v.snapshots → FrameIsApart w names frame → FrameIsApart v names frame
apart_on w v names None more apart = tt
apart_on w v names (Some f) more apart =
    record { inner = apart.inner; within = omega (arith, apart.within, more); below = apart.below; apart = apart.apart }
