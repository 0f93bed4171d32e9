-- Trusted: what the calls of a frame promise of the composition, of the applier, of the reads and of the desk.
use Rattle.std.specs.Prelude.{◌≡◌, ℕ, ◌<◌, List, [], ◌++◌, true, Option, Some, None, Result, Err, IfOk, IfErr, OnOk, OnErr}
use Rattle.std.specs.Option.{option_map}
use Rattle.rt_values.specs.Maps.{Map}
use Rattle.rt_values.specs.Views.{Grew}
use Rattle.rt_values.specs.declared.value.Ty.{Ty}
use Rattle.rt_groups.specs.declared.report.Report.{Report}
use Rattle.rt_groups.specs.Frames.{LastFrame, is_detached}
use Rattle.compose_model.specs.Frame.{FrameResult, frame, kept_after}
use Rattle.lang_ast.specs.declared.program.Program.{Program}
use Rattle.lang_ast.specs.Programs.{functions_of}
use Rattle.node_tree.specs.NodeTrees.{CursorTree}
use Rattle.snap_policy.specs.Rules.{Rules}
use Rattle.snap_api.specs.Calls.{Calls, Logs}
use Rattle.snap_api.specs.World.{World}
use Rattle.snap_api.specs.declared.data.Entry.{Entry}
use Rattle.snap_api.specs.declared.data.Reply.{Reply}
use Rattle.snap_api.specs.declared.data.Reply.TheVariants as reply
use Rattle.snap_api.specs.declared.data.Request.{Request}
use Rattle.recomposer.specs.declared.composition.Begun.{Begun}
use Rattle.recomposer.specs.declared.composition.Composition.{Composition}
use Rattle.recomposer.specs.declared.composition.FrameStop.{FrameStop}
use Rattle.recomposer.specs.declared.composition.FrameStop.TheVariants.{TooManyGroups, ApplierFault, Spent}
use Rattle.recomposer.specs.AppliedFrames.{Applies, UnlessFault, FaultHasCause, OwesNothing, kept_after_fault}
use Rattle.recomposer.specs.Compositions.{IsAt, refused_take, frame_reads, BeginsFrame, EndsFrame, EndsPart, ClosesFrame, GrowsFor, LogsFrame, MakesReads, OwesNoCall, seen_again}

-- The result of the frame of the map `m` after the kept state `k`. There is none if it would have too many groups.
abbrev pub frame_result : Program → LastFrame → Map → Option FrameResult
frame_result p k m = frame (functions_of p) k m

-- `fact` holds of the state that the composition has kept and of the map that is shown.
abbrev pub InShownFrames : Composition → (Map → Type 0) → (LastFrame → Map → Type 0) → Type 0
InShownFrames c shows fact = (k : LastFrame) (m : Map) → IsAt c k (Some m) → shows m → fact k m

-- `fact` holds of the state that the composition has kept, of the types of the objects and of the watcher's last map,
-- which `last` gives, if no one else has taken for the watcher, as `alone` says.
abbrev pub InWatchedFrames : Composition → (List Ty → Option Map → Type 0) → Type 0
    → (LastFrame → List Ty → Option Map → Type 0) → Type 0
InWatchedFrames c last alone fact =
    (k : LastFrame) (types : List Ty) (l : Option Map) → IsAt c k l → last types l → alone → fact k types l

-- The watcher's last map is known: `last` gives it, and no one else has taken for the watcher, as `alone` says.
abbrev pub KnowsLast : (List Ty → Option Map → Type 0) → Type 0 → Type 0
KnowsLast last alone = (types : List Ty) × (l : Option Map) × last types l × alone

-- A composition keeps its program and its watcher.
pub record KeepsSettings (c c' : Composition) : Type 0 where
  pub program : c'.program ≡ c.program
  pub watcher : c'.watcher ≡ c.watcher

-- A composition keeps its program, its watcher, and the calls of its last good frame on the applier.
pub record KeepsCalls (c c' : Composition) : Type 0 where
  pub settings : KeepsSettings c c'
  pub ops : c'.ops ≡ c.ops

-- The composition `c` composed what it owes in the shown map, with this result, and is `c'` now.
pub record ComposesShown (c c' : Composition) (shows : Map → Type 0) (result : Result Report FrameStop) : Type 0 where
  -- A good frame keeps the state that the definition of frames gives.
  pub good : InShownFrames c shows
      (λ k m. OnOk result (IsAt c' (kept_after k (frame_result c.program.now k m)) (Some m)))
  -- A good frame has the report of that definition.
  pub report : InShownFrames c shows
      (λ k m. IfOk result (λ r. Some r ≡ option_map (λ g. g.told) (frame_result c.program.now k m)))
  -- A frame is refused for its groups only if it has too many.
  pub many : InShownFrames c shows (λ k m. result ≡ Err TooManyGroups → frame_result c.program.now k m ≡ None)
  -- A fault of the applier keeps nothing except the number of the next new node.
  pub fault : InShownFrames c shows (λ k m. result ≡ Err ApplierFault
      → IsAt c' (kept_after_fault k (frame_result c.program.now k m)) (Some m))
  -- A frame with a fault of the applier had a result.
  pub made : InShownFrames c shows
      (λ k m. result ≡ Err ApplierFault → frame_result c.program.now k m ≡ None → ⊥)
  -- A fault of the applier detaches the composition from the applier's tree.
  pub detached : InShownFrames c shows (λ k m. result ≡ Err ApplierFault
      → is_detached (kept_after_fault k (frame_result c.program.now k m)) ≡ true)
  -- A good frame that owes no call keeps all groups.
  pub quiet : InShownFrames c shows (λ k m. OwesNoCall k m → OnOk result (IsAt c' (seen_again k m) (Some m)))
  -- A refusal except a fault of the applier changes nothing.
  pub err : UnlessFault (c' ≡ c) result
  -- A frame that has begun does not stop for the clock.
  pub not_spent : result ≡ Err Spent → ⊥
  -- The program and the watcher stay.
  pub settings : KeepsSettings c c'

-- A frame of the composition `c`, which is `c'` now, left its applier in this state.
pub record LeavesApplier {A : Type 0} (tree : A → Option CursorTree) (faults : A → ℕ) (old new : A)
    (c c' : Composition) (result : Result Report FrameStop) : Type 0 where
  -- A good frame without calls does not call the applier.
  pub uncalled : OnOk result (c'.ops ≡ [] → new ≡ old)
  -- A refusal except a fault leaves the applier's tree.
  pub still : UnlessFault (tree new ≡ tree old) result
  -- The frame stops for a fault only if a call on the applier failed.
  pub cause : FaultHasCause (faults old) (faults new) result
  -- A refused frame keeps the calls of the last good one.
  pub lent : OnErr result (c'.ops ≡ c.ops)

-- A frame of the composition `c` in the shown map, which left the composition `c'`, drove its applier.
pub record DrivesApplier {A : Type 0} (tree : A → Option CursorTree) (faults : A → ℕ) (old new : A)
    (c c' : Composition) (shows : Map → Type 0) (result : Result Report FrameStop) : Type 0 where
  -- A good frame made the calls that turn the kept tree into the new one.
  pub applied : InShownFrames c shows
      (λ k m. OnOk result (Applies (tree old) (tree new) c'.ops k (frame_result c.program.now k m)))
  -- A frame that owes no call does not call the applier.
  pub quiet : InShownFrames c shows (λ k m. OwesNoCall k m → (new ≡ old) × OnOk result (c'.ops ≡ []))
  -- A frame that owes nothing does not call the applier.
  pub idle : OwesNothing c → (new ≡ old) × OnOk result (c'.ops ≡ [])
  -- What holds of each frame's applier.
  pub leaves : LeavesApplier tree faults old new c c' result

-- The list of reads grew from `asked` to `asked'` by what a frame of the composition owes in the shown map.
pub record AsksOwed {U : Type 0} (c : Composition) (shows : Map → Type 0) (asked asked' : List ℕ)
    (result : Result U FrameStop) : Type 0 where
  -- A good frame reads what it owes.
  pub asks : InShownFrames c shows (λ k m. OnOk result (asked' ≡ asked ++ frame_reads c.program.now k m))
  -- Another frame reads a first part of that.
  pub part : InShownFrames c shows (λ k m. OnErr result (Grew asked asked' (frame_reads c.program.now k m)))
  -- A frame with a fault of the applier read all of that.
  pub fault : InShownFrames c shows
      (λ k m. result ≡ Err ApplierFault → asked' ≡ asked ++ frame_reads c.program.now k m)
  -- A good frame that owes no call reads nothing.
  pub quiet : InShownFrames c shows (λ k m. OwesNoCall k m → OnOk result (asked' ≡ asked))

-- The log grew from `old` to `new` by the end of a frame of the composition in the shown map. `snapshot` is the caller
-- and the number of the frame's snapshot, and the list of reads grew from `asked` to `asked'`.
pub record LogsEnd {U : Type 0} (c : Composition) (shows : Map → Type 0) (asked asked' : List ℕ)
    (old new : Option (List Entry)) (snapshot : ℕ × ℕ) (result : Result U FrameStop) : Type 0 where
  -- A good frame adds the reads that it owes and the dispose.
  pub log : InShownFrames c shows
      (λ k m. OnOk result (EndsFrame old new snapshot.0 snapshot.1 (frame_reads c.program.now k m)))
  -- Another frame adds a first part of these reads and the dispose.
  pub refused : InShownFrames c shows (λ k m. 0 < snapshot.1
      → OnErr result (EndsPart old new snapshot.0 snapshot.1 (frame_reads c.program.now k m)))
  -- A frame with a fault of the applier adds all these reads and the dispose.
  pub fault : InShownFrames c shows (λ k m. result ≡ Err ApplierFault
      → EndsFrame old new snapshot.0 snapshot.1 (frame_reads c.program.now k m))
  -- Any frame adds the reads by which the list grew, and the dispose with some reply.
  pub closed : ClosesFrame shows asked asked' old new snapshot.0 snapshot.1 result
  -- The end of a frame takes for no watcher.
  pub draws : (n : ℕ) → GrowsFor n old new

-- The desk `new` borrows the same world and the same list as `old`, for the same caller. If no one else has taken for a
-- watcher, no one else had before.
pub record IsSameDesk {D : Type 0} (lends_to : D → D → Type 0) (is_alone : D → ℕ → Type 0) (caller_of : D → ℕ)
    (old new : D) : Type 0 where
  pub lends : lends_to old new
  pub alone : (n : ℕ) → is_alone new n → is_alone old n
  pub caller : caller_of new ≡ caller_of old

-- The desk is the same, and each watcher for whom no one else has taken has the same last map.
pub record KeepsDesk {D : Type 0} (lends_to : D → D → Type 0) (is_alone : D → ℕ → Type 0) (caller_of : D → ℕ)
    (last_map : D → ℕ → List Ty → Option Map → Type 0) (old new : D) : Type 0 where
  pub same : IsSameDesk lends_to is_alone caller_of old new
  pub last : (n : ℕ) (types : List Ty) (l : Option Map) → last_map old n types l → is_alone new n
      → last_map new n types l

-- A frame begins in a shown map after the watcher's last map, or keeps that map. `last` and `last'` give the last map
-- before and after, and `alone` says that no one else has taken for the watcher.
pub record BeginsShown (c c' : Composition) (shows : Map → Type 0) (last last' : List Ty → Option Map → Type 0)
    (alone : Type 0) (result : Result Begun FrameStop) : Type 0 where
  -- A good beginning shows the watcher's last map from now on, and marks what changed.
  pub good : InWatchedFrames c last alone
      (λ k types l. IfOk result (λ b. BeginsFrame (IsAt c' k) shows (last' types) l b.name b.changed))
  -- A refused one keeps the watcher's last map.
  pub stays : (types : List Ty) (l : Option Map) → last types l → alone → OnErr result (last' types l)

-- A frame that begins well shows its snapshot from now on. One that does not begin leaves the snapshot that the desk
-- showed, and the map.
pub record OpensSnapshot (opened opened' : Option ℕ) (shows shows' : Map → Type 0)
    (result : Result Begun FrameStop) : Type 0 where
  pub name : IfOk result (λ b. opened' ≡ Some b.name)
  pub kept : OnErr result (opened' ≡ opened)
  pub still : (m : Map) → shows m → OnErr result (shows' m)

-- A frame that does not begin changes nothing, and stops neither for its groups nor for a fault of the applier.
pub record StopsBefore {U : Type 0} (c c' : Composition) (result : Result U FrameStop) : Type 0 where
  pub err : OnErr result (c' ≡ c)
  pub few : result ≡ Err TooManyGroups → ⊥
  pub no_fault : result ≡ Err ApplierFault → ⊥

-- The world made a call with this reply, and its log got the call.
abbrev pub CallsAndLogs : {P : Type 0} → Rules P → (World P → Type 0) → (World P → Type 0) → Option (List Entry)
    → Option (List Entry) → ℕ → Request → Reply → Type 0
CallsAndLogs rules before after old new caller request r =
    Calls rules before after caller request r × Logs old new caller request r

-- The take of a frame had the reply of this result, of which `fact` holds. After a refusal this is known only if the
-- watcher's last map was, as `known` says.
pub record RepliesToTake (fact : Reply → Type 0) (known : Type 0) (result : Result Begun FrameStop) : Type 0 where
  -- A good beginning has the take's reply.
  pub taken : IfOk result (λ b. fact (reply.TakenFor b.name b.changed))
  -- A refused one has the refusal of the take.
  pub refused : known → IfErr result (λ stop. fact (refused_take stop))

-- The list of reads grew by the objects `xs`, and the log by a whole frame with these reads.
abbrev pub ReadsInFrame : List ℕ → List ℕ → Option (List Entry) → Option (List Entry) → ℕ → ℕ → List ℕ → Type 0
ReadsInFrame asked asked' old new caller watcher xs = (asked' ≡ asked ++ xs) × LogsFrame old new caller watcher xs

-- The log grew from `old` to `new` by the calls of a frame.
pub record LogsCalls {U : Type 0} (asked asked' : List ℕ) (old new : Option (List Entry)) (caller watcher : ℕ)
    (result : Result U FrameStop) : Type 0 where
  -- A good frame adds a whole frame, with the reads by which the list of reads grew.
  pub whole : OnOk result (MakesReads asked asked' old new caller watcher)
  -- Any frame takes only for the watcher.
  pub draws : GrowsFor watcher old new
