-- Internal: how the state of a run in memory represents the state of the definitions, and what was written.
use Rattle.std.specs.Prelude.{◌≡◌, ◌≢◌, ◌⊎◌, ◌<◌, ◌≤◌, ◌+◌, ℕ, List, [], ◌∷◌, ◌++◌, All, true, false, length, map, Option, Some, None, Result, IfOk, OnOk, OnErr}
use Rattle.std.specs.List.{flat_map}
use Rattle.std.specs.Option.{option_map}
use Rattle.rt_values.specs.Maps.{Map}
use Rattle.rt_values.specs.Views.{Grew}
use Rattle.rt_groups.specs.Frames.{LastFrame}
use Rattle.rt_groups.specs.declared.report.Report.{Report}
use Rattle.lang_ast.specs.Terms.{Func}
use Rattle.compose_model.specs.Frame.{FrameResult, kept_after}
use Rattle.node_tree.specs.declared.ops.Op.{Op}
use Rattle.lang_ast.specs.Programs.{functions_of}
use Rattle.recomposer.specs.Compositions.{IsAt}
use Rattle.recomposer.specs.FrameContracts.{frame_result, InShownFrames}
use Rattle.recomposer.specs.declared.composition.Composition.{Composition}
use Rattle.snap_policy.specs.Table.{table}
use Rattle.snap_policy.specs.declared.policy.BuiltIn.{BuiltIn}
use Rattle.snap_api.specs.declared.data.Entry.{Entry}
use Rattle.snap_api.specs.DeskReads.{LogsReadsIn, AreLegal, call_of, reads_of}
use Rattle.snap_api.specs.World.{World, History, IsLegal, world_after, last_of, snapshot_of, is_mutable}
use Rattle.snap_api.specs.Valid.{IsValid}
use Rattle.snap_api.specs.Calls.{IsOwn}
use Rattle.lang_script.specs.SnapshotNames.{NamedNumber, latest, never_taken}
use Rattle.lang_script.specs.NamesInMemory.{Holds}
use Rattle.lang_script.specs.StepCalls.{Part, Take, BeginFrame, EndFrame, ActorPart, watcher_number}
use Rattle.script_lang.specs.declared.flags.Flags.{Flags}
use Rattle.script_lang.specs.Lines.{LineStyle}
use Rattle.node_tree.specs.FrameOps.{frame_ops}
use Rattle.play_run.specs.RunPromise.{WritesBytes, WritesAtLeast, style_of, job_functions}
use Rattle.script_lang.specs.PrintedCalls.{printed_calls}
use Rattle.play_run.specs.RunLog.{frames_in, ReadsOwed}
use Rattle.play_run.specs.RunOutput.{Run, parts_lines, parts_after}
use Rattle.play_steps.specs.PartLists.{parts_of}
use Rattle.play_run.specs.declared.calls.JobActor.{JobActor}
use Rattle.play_run.specs.declared.memory.RunMemory.{RunMemory}
use Rattle.play_run.specs.declared.write_lines.Stop.{Stop}

-- The bytes of lines, one after the other.
abbrev pub flat : List (List ℕ) → List ℕ
flat ls = flat_map (λ l. l) ls

-- Every number that a name has is that of a snapshot, or stands for a refused take.
abbrev pub AreKnown : World BuiltIn → List NamedNumber → Type 0
AreKnown w names = (name : List ℕ) (n : ℕ) → latest names name ≡ Some n → (n < length w.snapshots) ⊎ (n ≡ never_taken)

-- An actor's frame with this snapshot is open. The snapshot shows the watcher's last map, and no name has its number.
pub record InFrame (actor name : ℕ) (r : Run) : Type 0 where
  pub frames : r.standing.frames ≡ name ∷ []
  pub own : IsOwn r.standing.world actor name
  pub fixed : is_mutable (snapshot_of r.standing.world name).kind ≡ false
  pub last : last_of r.standing.world watcher_number ≡ Some (snapshot_of r.standing.world name).view
  pub apart : (other : List ℕ) (n : ℕ) → latest r.notes.names other ≡ Some n → n ≢ name

-- No frame is open, or that of the actor with this snapshot.
abbrev pub IsAtFrame : ℕ → Option ℕ → Run → Type 0
IsAtFrame actor None r = r.standing.frames ≡ []
IsAtFrame actor (Some name) r = InFrame actor name r

-- The world represents the plain world of the state, which is valid. The composition of these functions has kept the
-- last good frame, and owes what changed from then to the watcher's last map.
pub record RunFacts {V : Type 0} (functions : List Func) (stands : V → World BuiltIn → Type 0) (world : V)
    (kept : Composition) (actor : ℕ) (frame : Option ℕ) (r : Run) : Type 0 where
  pub world_stands : stands world r.standing.world
  pub valid : IsValid table r.standing.world
  pub few : length r.standing.world.snapshots ≤ r.standing.world.clock + 1
  pub known : AreKnown r.standing.world r.notes.names
  pub is_at : IsAt kept r.standing.kept (last_of r.standing.world watcher_number)
  pub same_program : functions_of kept.program.now ≡ functions
  pub noted : r.notes.frame ≡ frame
  pub at_frame : IsAtFrame actor frame r

-- What the log `now` says of the calls so far: it grew from `old` by these calls, each reply is the plain world's, the
-- printed calls are `r.made`, and each frame that ended read what it owes. The last three facts are stated for every
-- history `es` that may follow.
pub record LogSoFar (functions : List Func) (r : Run) (old : List Entry) (now : Option (List Entry)) : Type 0 where
  pub more : History
  pub log_is : now ≡ Some (old ++ more)
  pub legal : (es : History) → IsLegal table r.standing.world es → IsLegal table r.first.world (more ++ es)
  pub printed_is : (es : History)
      → printed_calls r.first.frames (more ++ es) ≡ r.made ++ printed_calls r.standing.frames es
  pub frames_read : (es : History) → All (ReadsOwed functions) (frames_in functions r.standing [] es)
      → All (ReadsOwed functions) (frames_in functions r.first [] (more ++ es))

abbrev pub IsLogged : List Func → Run → Option (List Entry) → Option (List Entry) → Type 0
IsLogged functions r None now = now ≡ None
IsLogged functions r (Some old) now = LogSoFar functions r old now

-- What the log `now` says of a run that stopped: it grew from `old` by a legal history whose printed calls are
-- `r.made`.
pub record LogAtStop (r : Run) (old : List Entry) (now : Option (List Entry)) : Type 0 where
  pub more : History
  pub log_is : now ≡ Some (old ++ more)
  pub legal : IsLegal table r.first.world more
  pub printed_is : printed_calls r.first.frames more ≡ r.made

abbrev pub IsLoggedAtStop : Run → Option (List Entry) → Option (List Entry) → Type 0
IsLoggedAtStop r None now = now ≡ None
IsLoggedAtStop r (Some old) now = LogAtStop r old now

-- A log, if there is one, grew by one call.
abbrev pub AddsEntry : Option (List Entry) → Option (List Entry) → Entry → Type 0
AddsEntry None new e = new ≡ None
AddsEntry (Some old) new e = new ≡ Some (old ++ e ∷ [])

-- A log is unchanged, or grew by one call.
abbrev pub MayAddEntry : Option (List Entry) → Option (List Entry) → Entry → Type 0
MayAddEntry old new e = (new ≡ old) ⊎ AddsEntry old new e

-- The list of reads grew by all reads that a good frame owes, or by a first part of them if the frame was refused.
abbrev pub HasAsked : List ℕ → List ℕ → List ℕ → Option Report → Type 0
HasAsked asked asked' reads (Some told) = asked' ≡ asked ++ reads
HasAsked asked asked' reads None = Grew asked asked' reads

-- The log grew by reads in the caller's snapshot `name`, and each has the plain world's reply.
pub record LogsLegalReads (stands : World BuiltIn → Type 0) (old new : Option (List Entry))
    (caller name : ℕ) : Type 0 where
  pub xs : List ℕ
  pub reads : LogsReadsIn old new caller (Some name) xs
  pub legal : AreLegal table stands old new

-- A log grew by the reads of a frame after the kept state `k` in the map `m`. Their replies are those of each
-- represented plain world, which they do not change, and the frame read what it owes.
pub record FrameReadsLogged (functions : List Func) (stands : World BuiltIn → Type 0) (caller name : ℕ)
    (k : LastFrame) (m : Map) (old : List Entry) (new : Option (List Entry)) : Type 0 where
  pub more : History
  pub log_is : new ≡ Some (old ++ more)
  pub xs : List ℕ
  pub reads : map call_of more ≡ reads_of caller name xs
  pub legal : (w : World BuiltIn) → stands w → IsLegal table w more
  pub leaves : (w : World BuiltIn) → stands w → world_after table w more ≡ w
  pub owed : ReadsOwed functions (record { kept = k; map = m; reads = xs })

abbrev pub LogsFrameReads : List Func → (World BuiltIn → Type 0) → ℕ → ℕ → LastFrame → Map → Option (List Entry)
    → Option (List Entry) → Type 0
LogsFrameReads functions stands caller name k m None new = new ≡ None
LogsFrameReads functions stands caller name k m (Some old) new =
    FrameReadsLogged functions stands caller name k m old new

-- With `--ops` the calls of a frame with this result after the kept state are these, if it is good.
abbrev pub MadeCalls : Flags → LastFrame → Option FrameResult → List Op → Type 0
MadeCalls flags k None calls = Unit {0}
MadeCalls flags k (Some good) calls = flags.ops ≡ true → calls ≡ frame_ops k good.left.trail

-- The world and the memory represent the state `r` of a run: `RunFacts` holds, the table of names in memory is that of
-- the state, and the log of the world is that of the run.
pub record IsRun {V : Type 0} (functions : List Func) (stands : V → World BuiltIn → Type 0)
    (log : V → Option (List Entry)) (world : V) (memory : RunMemory) (actor : ℕ) (frame : Option ℕ) (r : Run)
    : Type 0 where
  pub facts : RunFacts functions stands world memory.composition actor frame r
  pub named : Holds memory.names r.notes.names
  pub logged : IsLogged functions r r.log (log world)

-- A part that neither begins nor ends a frame.
abbrev pub IsPlain : Part → Type 0
IsPlain BeginFrame = ⊥
IsPlain EndFrame = ⊥
IsPlain _ = Unit {0}

-- The composition `c` composed what it owes in the shown map for a run with these flags, and is `c'` now. The result
-- is the report of the frame, or `None` if it has too many groups.
pub record ComposesForRun (flags : Flags) (c c' : Composition) (shows : Map → Type 0)
    (result : Result (Option Report) Stop) : Type 0 where
  -- The report is that of the frame.
  pub told : InShownFrames c shows
      (λ k m. IfOk result (λ r. r ≡ option_map (λ g. g.told) (frame_result c.program.now k m)))
  -- The frame leaves the state that the definition of frames gives.
  pub left : InShownFrames c shows
      (λ k m. OnOk result (IsAt c' (kept_after k (frame_result c.program.now k m)) (Some m)))
  -- With `--ops` the composition lists the calls of the frame.
  pub calls : InShownFrames c shows
      (λ k m. OnOk result (MadeCalls flags k (frame_result c.program.now k m) c'.ops))
  -- The program stays.
  pub program : c'.program ≡ c.program

-- A part that neither begins nor ends a frame and takes no snapshot.
abbrev pub KeepsNames : Part → Type 0
KeepsNames (Take name kind parent) = ⊥
KeepsNames BeginFrame = ⊥
KeepsNames EndFrame = ⊥
KeepsNames _ = Unit {0}

-- The run of the parts after the state `r` stopped. The printed calls in the log are those of the parts `whole` and of
-- at most one part more. The lines of the parts `whole` were written.
pub record StopsAt (style : LineStyle) (functions : List Func) (parts : List ActorPart) (now : Option (List Entry))
    (written written' : Option (List ℕ)) (r : Run) : Type 0 where
  pub whole : List ActorPart
  pub last : List ActorPart
  pub rest : List ActorPart
  pub split : whole ++ (last ++ rest) ≡ parts
  pub one : length last ≤ 1
  pub logged : IsLoggedAtStop (parts_after functions r (whole ++ last)) r.log now
  pub wrote : WritesAtLeast written written' (flat (parts_lines style functions r whole))

-- The lines of the parts after the state `r` were written, and the state after them is represented. `frame` is the open
-- frame before the parts, and `frame'` the one after them. After an error the run of the parts stopped.
pub record RunsAt {V T : Type 0} (style : LineStyle) (functions : List Func) (stands : V → World BuiltIn → Type 0)
    (log : V → Option (List Entry)) (actor : ℕ) (parts : List ActorPart) (world' : V) (memory' : RunMemory)
    (frame' : Option ℕ) (written written' : Option (List ℕ)) (r : Run) (result : Result T Stop) : Type 0 where
  pub says : WritesBytes written written' (flat (parts_lines style functions r parts)) result
  pub left : OnOk result (IsRun functions stands log world' memory' actor frame' (parts_after functions r parts))
  pub stops : OnErr result (StopsAt style functions parts (log world') written written' r)

-- `RunsAt` holds for every state that `world` and `memory` represent before the parts.
abbrev pub RunsParts : {V T : Type 0} (style : LineStyle) (functions : List Func) (stands : V → World BuiltIn → Type 0)
    (log : V → Option (List Entry)) (actor : ℕ) (parts : List ActorPart) (world world' : V)
    (memory memory' : RunMemory) (frame frame' : Option ℕ) (written written' : Option (List ℕ))
    (result : Result T Stop) → Type 0
RunsParts style functions stands log actor parts world world' memory memory' frame frame' written written' result =
    (r : Run) → IsRun functions stands log world memory actor frame r →
    RunsAt style functions stands log actor parts world' memory' frame' written written' r result

-- What a run is at one time: the world, the memory, the open frame, and the bytes that the sink was given.
pub record Scene (V : Type 0) : Type 0 where
  pub world : V
  pub memory : RunMemory
  pub frame : Option ℕ
  pub written : Option (List ℕ)

abbrev pub scene : {V : Type 0} → V → RunMemory → Option ℕ → Option (List ℕ) → Scene V
scene world memory frame written = record { world = world; memory = memory; frame = frame; written = written }

-- The lines of these parts of the actor's steps after the state `r`.
abbrev pub actor_lines : JobActor → List Part → Run → List ℕ
actor_lines actor parts r =
    flat (parts_lines (style_of actor) (job_functions actor.job.now) r (parts_of actor.number parts))

-- The state after these parts of the actor's steps after the state `r`.
abbrev pub after_parts : JobActor → List Part → Run → Run
after_parts actor parts r = parts_after (job_functions actor.job.now) r (parts_of actor.number parts)

-- The world and the memory represent the state `r` of the actor's run, in which `frame` is open.
abbrev pub IsActorRun : {V : Type 0} → JobActor → (V → World BuiltIn → Type 0) → (V → Option (List Entry)) → V
    → RunMemory → Option ℕ → Run → Type 0
IsActorRun actor stands log world memory frame r =
    IsRun (job_functions actor.job.now) stands log world memory actor.number frame r

-- The actor's run of these parts after the state `r` stopped.
abbrev pub ActorStopsAt : JobActor → List Part → Option (List Entry) → Option (List ℕ) → Option (List ℕ) → Run → Type 0
ActorStopsAt actor parts now written written' r = StopsAt (style_of actor) (job_functions actor.job.now)
    (parts_of actor.number parts) now written written' r

-- These parts of the actor's steps were run after the state `r`, with the bytes `written` written before them.
abbrev pub ActorRunsAt : {V T : Type 0} → JobActor → (V → World BuiltIn → Type 0) → (V → Option (List Entry))
    → List Part → Scene V → Option (List ℕ) → Run → Result T Stop → Type 0
ActorRunsAt actor stands log parts after written r result = RunsAt (style_of actor) (job_functions actor.job.now) stands
    log actor.number (parts_of actor.number parts) after.world after.memory after.frame written after.written r result

-- `ActorRunsAt` holds for every state that the scene `before` represents.
abbrev pub ActorRuns : {V T : Type 0} → JobActor → (V → World BuiltIn → Type 0) → (V → Option (List Entry)) → List Part
    → Scene V → Scene V → Result T Stop → Type 0
ActorRuns actor stands log parts before after result = RunsParts (style_of actor) (job_functions actor.job.now) stands
    log actor.number (parts_of actor.number parts) before.world after.world before.memory after.memory before.frame
    after.frame before.written after.written result
