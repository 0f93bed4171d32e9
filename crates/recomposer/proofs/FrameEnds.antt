-- How a composed frame ends.
use Rattle.std.proofs.Common.{◌≡◌, ℕ, ◌≤◌, List, [], length, refl, sym, ap, ◌∙◌, subst, Option, Some, None, Err, Ok, arith}
use Rattle.rt_streams.specs.Streams.{Rose}
use Rattle.rt_groups.specs.declared.report.Report.{Report}
use Rattle.composer.specs.FrameDrafts.{DraftGroups}
use Rattle.node_tree.specs.Calls.{BecomesAfter}
use Rattle.node_tree.specs.declared.ops.Op.{Op}
use Rattle.node_tree.specs.NodeTrees.{CursorTree}
use Rattle.recomposer.specs.declared.composition.Composition.{Composition}
use Rattle.recomposer.specs.declared.composition.FrameStop.TheVariants.{ApplierFault, NoMemory}
use Rattle.recomposer.specs.AppliedFrames.{Applies, kept_after_fault, ops_of}
use Rattle.recomposer.specs.Compositions.{IsAt}
use Rattle.recomposer.specs.FrameContracts.{KeepsSettings, frame_result}
use Rattle.recomposer.specs.FrameEnds.{InFrames, AreCalls, KeepsGroups, IsReport, EndsComposed}
use Rattle.recomposer.proofs.Frames.{has_result, no_calls, frame_applies, none_applies, idle_applies, detached_after}
use Rattle.recomposer.proofs.Stops.{good_not_err, memory_not_fault, memory_not_many, memory_not_spent, fault_not_many, fault_not_spent}

-- A draft is there.
pub not_none : {A : Type 0} (d : DraftGroups) → Some d ≡ None → A
not_none d none = absurd cc

-- Out of memory, the composition and the tree stay. The applier is unchanged if there was no call to make.
pub ends_without_memory : (c : Composition) (composed : Option DraftGroups) (tree tree' : Option CursorTree)
    (faults faults' : ℕ) (untouched : Type 0) → tree' ≡ tree → faults' ≡ faults
    → InFrames c composed (λ k m. ops_of k (frame_result c.program.now k m) ≡ [] → untouched)
    → (composed ≡ None → untouched) → EndsComposed c c composed tree tree' faults faults' untouched (Err NoMemory)
ends_without_memory c composed tree tree' faults faults' untouched same counted unchanged idle = record {
  good = λ k m h made. tt;
  report = λ k m h made. tt;
  applied = λ k m h made. tt;
  fault = λ k m h made stop. memory_not_fault stop;
  made = λ k m h made stop. memory_not_fault stop;
  err = refl;
  still = same;
  cause = record { later = omega (arith, counted); failed = λ stop. memory_not_fault stop };
  lent = refl;
  detached = λ k m h made stop. memory_not_fault stop;
  uncalled = tt;
  unchanged = λ k m h made none. (unchanged k m h made none, tt);
  idle = λ none. (idle none, tt);
  few = λ stop. memory_not_many stop;
  not_spent = λ stop. memory_not_spent stop;
  settings = record { program = refl; watcher = refl };
}

-- A frame is good. The applier is unchanged if the frame made no call.
module _ (c c' : Composition) (composed : Option DraftGroups) (tree tree' : Option CursorTree) (faults faults' : ℕ)
    (untouched : Type 0) (report : Report) (settings : KeepsSettings c c')
    (good : KeepsGroups c composed c') (told : IsReport c composed report) where
  ends_well : faults ≤ faults'
      → InFrames c composed (λ k m. Applies tree tree' c'.ops k (frame_result c.program.now k m))
      → (c'.ops ≡ [] → untouched)
      → InFrames c composed (λ k m. ops_of k (frame_result c.program.now k m) ≡ [] → c'.ops ≡ [])
      → (composed ≡ None → c'.ops ≡ [])
      → EndsComposed c c' composed tree tree' faults faults' untouched (Ok report)
  ends_well later applied uncalled unchanged idle = record {
    good = good;
    report = told;
    applied = applied;
    fault = λ k m h made stop. good_not_err stop;
    made = λ k m h made stop. good_not_err stop;
    err = tt;
    still = tt;
    cause = record { later = later; failed = λ stop. good_not_err stop };
    lent = tt;
    detached = λ k m h made stop. good_not_err stop;
    uncalled = uncalled;
    unchanged = λ k m h made none. let empty = unchanged k m h made none in (uncalled empty, empty);
    idle = λ none. let empty = idle none in (uncalled empty, empty);
    few = λ stop. good_not_err stop;
    not_spent = λ stop. good_not_err stop;
    settings = settings;
  }

-- A frame that owes nothing makes no call.
pub ends_idle : (c c' : Composition) (tree : Option CursorTree) (faults : ℕ) (untouched : Type 0) (report : Report)
    → KeepsSettings c c' → KeepsGroups c None c' → IsReport c None report → untouched
    → c'.ops ≡ [] → EndsComposed c c' None tree tree faults faults untouched (Ok report)
ends_idle c c' tree faults untouched report settings good told still none =
    ends_well c c' None tree tree faults faults untouched report settings good told (omega arith)
    (λ k m h owed. subst (λ (l : List Op). Applies tree tree l k (frame_result c.program.now k m)) (sym none)
    (idle_applies c k m h owed.0 owed.1 tree))
    (λ e. still) (λ k m h owed e. none) (λ e. none)

-- A draft is kept that needs no call.
pub ends_uncalled : (c c' : Composition) (d : DraftGroups) (tree : Option CursorTree) (faults : ℕ) (untouched : Type 0)
    (report : Report) (calls : List Op)
    → KeepsSettings c c' → KeepsGroups c (Some d) c' → IsReport c (Some d) report
    → untouched → c'.ops ≡ calls → calls ≡ [] → AreCalls c (Some d) calls
    → EndsComposed c c' (Some d) tree tree faults faults untouched (Ok report)
ends_uncalled c c' d tree faults untouched report calls settings good told still kept none are =
    ends_well c c' (Some d) tree tree faults faults untouched report settings good told (omega arith)
    (λ k m h made. none_applies c k m d h made.1 tree c'.ops calls kept (ap (λ (l : List Op). length l) none)
    (are k m h made))
    (λ e. still) (λ k m h made e. kept ∙ none) (λ e. kept ∙ none)

-- A draft is kept after its calls.
pub ends_called : (c c' : Composition) (d : DraftGroups) (tree mid tree' : Option CursorTree) (faults faults' : ℕ)
    (untouched : Type 0) (report : Report) (ops calls : List Op)
    → KeepsSettings c c' → KeepsGroups c (Some d) c' → IsReport c (Some d) report
    → faults ≤ faults' → mid ≡ tree → BecomesAfter mid tree' calls → calls ≡ ops → c'.ops ≡ ops → (ops ≡ [] → ⊥)
    → AreCalls c (Some d) ops → EndsComposed c c' (Some d) tree tree' faults faults' untouched (Ok report)
ends_called c c' d tree mid tree' faults faults' untouched report ops calls settings good told later same
    becomes copied kept some are =
    ends_well c c' (Some d) tree tree' faults faults' untouched report settings good told later
    (λ k m h made. frame_applies c k m d h made.1 tree mid tree' c'.ops calls same becomes (copied ∙ sym kept)
    (kept ∙ are k m h made))
    (λ e. absurd (some (sym kept ∙ e))) (λ k m h made e. kept ∙ are k m h made ∙ e)
    (not_none d)

-- A call on the applier failed, and the composition is detached.
pub ends_with_fault : (c c' : Composition) (d : DraftGroups) (tree tree' : Option CursorTree) (faults faults' : ℕ)
    (untouched : Type 0) (ops : List Op)
    → KeepsSettings c c' → c'.ops ≡ c.ops
    → InFrames c (Some d)
    (λ k m. IsAt c' (kept_after_fault k (frame_result c.program.now k m)) (Some m))
    → faults ≤ faults' → Rose faults faults' → (ops ≡ [] → ⊥) → AreCalls c (Some d) ops
    → EndsComposed c c' (Some d) tree tree' faults faults' untouched (Err ApplierFault)
ends_with_fault c c' d tree tree' faults faults' untouched ops settings lent fault later rose some are = record {
  good = λ k m h made. tt;
  report = λ k m h made. tt;
  applied = λ k m h made. tt;
  fault = λ k m h made stop. fault k m h made;
  made = λ k m h made stop. has_result c k m d made.1;
  err = tt;
  still = tt;
  cause = record { later = later; failed = λ stop. rose };
  lent = lent;
  detached = λ k m h made stop. detached_after c k m d h made.1 ops (are k m h made)
      (λ none. some (no_calls ops none));
  uncalled = tt;
  unchanged = λ k m h made none. absurd (some (are k m h made ∙ none));
  idle = not_none d;
  few = λ stop. fault_not_many stop;
  not_spent = λ stop. fault_not_spent stop;
  settings = settings;
}
