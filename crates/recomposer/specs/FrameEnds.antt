-- Internal: what a composed frame leaves in the composition and in the applier.
use Rattle.std.specs.Prelude.{◌≡◌, ℕ, List, [], ◌++◌, true, Option, Some, None, Result, Err, IfOk, OnOk, OnErr}
use Rattle.std.specs.Option.{option_map}
use Rattle.rt_values.specs.Maps.{Map}
use Rattle.rt_values.specs.Views.{Grew}
use Rattle.rt_groups.specs.declared.report.Report.{Report}
use Rattle.rt_groups.specs.Frames.{LastFrame, is_detached}
use Rattle.compose_model.specs.Frame.{kept_after}
use Rattle.composer.specs.FrameDrafts.{DraftGroups}
use Rattle.node_tree.specs.declared.ops.Op.{Op}
use Rattle.node_tree.specs.NodeTrees.{CursorTree}
use Rattle.recomposer.specs.declared.composition.Composition.{Composition}
use Rattle.recomposer.specs.declared.composition.FrameStop.{FrameStop}
use Rattle.recomposer.specs.declared.composition.FrameStop.TheVariants.{TooManyGroups, ApplierFault, Spent}
use Rattle.recomposer.specs.AppliedFrames.{Applies, UnlessFault, FaultHasCause, kept_after_fault, ops_of}
use Rattle.recomposer.specs.Composed.{IsComposed}
use Rattle.recomposer.specs.Compositions.{IsAt, frame_reads, OwesNoCall}
use Rattle.recomposer.specs.FrameContracts.{InShownFrames, KeepsSettings, frame_result}

-- `fact` holds of the kept state and the map of each frame of the composition `c` that composed `composed`.
abbrev pub InFrames : Composition → Option DraftGroups → (LastFrame → Map → Type 0) → Type 0
InFrames c composed fact =
    (k : LastFrame) (m : Map) → IsAt c k (Some m) → IsComposed c k m composed → fact k m

-- `calls` are the calls on the applier of the frames that composed `composed`.
abbrev pub AreCalls : Composition → Option DraftGroups → List Op → Type 0
AreCalls c composed calls = InFrames c composed (λ k m. calls ≡ ops_of k (frame_result c.program.now k m))

-- The composition `c'` has kept the groups of the frames that composed `composed`.
abbrev pub KeepsGroups : Composition → Option DraftGroups → Composition → Type 0
KeepsGroups c composed c' =
    InFrames c composed (λ k m. IsAt c' (kept_after k (frame_result c.program.now k m)) (Some m))

-- `report` is the report of the frames that composed `composed`.
abbrev pub IsReport : Composition → Option DraftGroups → Report → Type 0
IsReport c composed report =
    InFrames c composed (λ k m. Some report ≡ option_map (λ g. g.told) (frame_result c.program.now k m))

-- The list of reads grew from `asked` to `asked'` by what a frame of the composition `c` that was composed owes in the
-- shown map: all of it if it was composed well, and a first part of it if not. A frame that was composed well and owes
-- no call read nothing.
pub record AsksComposed {U E : Type 0} (c : Composition) (shows : Map → Type 0) (asked asked' : List ℕ)
    (result : Result U E) : Type 0 where
  pub asks : InShownFrames c shows (λ k m. OnOk result (asked' ≡ asked ++ frame_reads c.program.now k m))
  pub part : InShownFrames c shows (λ k m. OnErr result (Grew asked asked' (frame_reads c.program.now k m)))
  pub quiet : InShownFrames c shows (λ k m. OwesNoCall k m → OnOk result (asked' ≡ asked))

-- A frame in the shown map stopped before the applier was called: neither for the clock nor for a fault of the applier,
-- and for its groups only if it has too many.
pub record StopsUncomposed {U : Type 0} (c : Composition) (shows : Map → Type 0)
    (result : Result U FrameStop) : Type 0 where
  pub many : InShownFrames c shows (λ k m. result ≡ Err TooManyGroups → frame_result c.program.now k m ≡ None)
  pub not_spent : result ≡ Err Spent → ⊥
  pub no_fault : result ≡ Err ApplierFault → ⊥

-- A frame of the composition `c` that composed `composed` ended with `result` and left the composition `c'`. The tree
-- that the applier knows changed from `tree` to `tree'`, and the applier's count of faults from `faults` to `faults'`.
-- `untouched` says that the applier is unchanged.
pub record EndsComposed (c c' : Composition) (composed : Option DraftGroups) (tree tree' : Option CursorTree)
    (faults faults' : ℕ) (untouched : Type 0) (result : Result Report FrameStop) : Type 0 where
  pub good : InFrames c composed
      (λ k m. OnOk result (IsAt c' (kept_after k (frame_result c.program.now k m)) (Some m)))
  pub report : InFrames c composed
      (λ k m. IfOk result (λ r. Some r ≡ option_map (λ g. g.told) (frame_result c.program.now k m)))
  pub applied : InFrames c composed
      (λ k m. OnOk result (Applies tree tree' c'.ops k (frame_result c.program.now k m)))
  pub fault : InFrames c composed (λ k m. result ≡ Err ApplierFault
      → IsAt c' (kept_after_fault k (frame_result c.program.now k m)) (Some m))
  pub made : InFrames c composed (λ k m. result ≡ Err ApplierFault → frame_result c.program.now k m ≡ None → ⊥)
  pub err : UnlessFault (c' ≡ c) result
  pub still : UnlessFault (tree' ≡ tree) result
  pub cause : FaultHasCause faults faults' result
  pub lent : OnErr result (c'.ops ≡ c.ops)
  pub detached : InFrames c composed (λ k m. result ≡ Err ApplierFault
      → is_detached (kept_after_fault k (frame_result c.program.now k m)) ≡ true)
  pub uncalled : OnOk result (c'.ops ≡ [] → untouched)
  pub unchanged : InFrames c composed (λ k m. ops_of k (frame_result c.program.now k m) ≡ []
      → untouched × OnOk result (c'.ops ≡ []))
  pub idle : composed ≡ None → untouched × OnOk result (c'.ops ≡ [])
  pub few : result ≡ Err TooManyGroups → ⊥
  pub not_spent : result ≡ Err Spent → ⊥
  pub settings : KeepsSettings c c'
