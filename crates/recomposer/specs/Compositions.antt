-- Trusted: when a composition has kept the state of the last good frame, and what a frame adds to the log of a world.
use Rattle.std.specs.Prelude.{◌≡◌, ◌⊎◌, ℕ, ◌<◌, ◌≤◌, List, [], ◌∷◌, ◌++◌, length, map, true, false, Option, Some, None, Result, Ok, Err, OnOk}
use Rattle.std.specs.Option.{option_map, is_none}
use Rattle.rt_values.specs.Maps.{Map, differ, contains}
use Rattle.rt_groups.specs.declared.report.Report.{Report}
use Rattle.rt_groups.specs.GroupForest.{GroupForest, End, how_many, how_many_nodes}
use Rattle.rt_groups.specs.Frames.{LastFrame, most_groups, reads, is_detached}
use Rattle.compose_model.specs.Composing.{forest}
use Rattle.compose_model.specs.Frame.{FrameResult, frame, kept_after}
use Rattle.lang_ast.specs.declared.program.Program.{Program}
use Rattle.recompose_laws.specs.Numbering.{without_numbers}
use Rattle.recompose_laws.specs.Idle.{IsNumbered, IsQuiet, unchanged_report}
use Rattle.recompose_laws.specs.Distinct.{AreDistinct, how_often}
use Rattle.snap_policy.specs.Rules.{Rules}
use Rattle.snap_api.specs.Calls.{Logs}
use Rattle.snap_api.specs.Desks.{Follows}
use Rattle.snap_api.specs.DeskReads.{call_of, reads_of, LogsReads}
use Rattle.snap_api.specs.World.{World, call, clock_limit}
use Rattle.snap_api.specs.declared.data.Entry.{Entry}
use Rattle.snap_api.specs.declared.data.Refusal.TheVariants as refusal
use Rattle.snap_api.specs.declared.data.Reply.{Reply}
use Rattle.snap_api.specs.declared.data.Reply.TheVariants as reply
use Rattle.snap_api.specs.declared.data.Request.{Request}
use Rattle.snap_api.specs.declared.data.Request.TheVariants.{TakeFor, Dispose}
use Rattle.composer.specs.OwedObjects.{OwedObjects}
use Rattle.composer.specs.FrameDrafts.{Holds, root_of}
use Rattle.lang_ast.specs.Programs.{program_view, functions_of}
use Rattle.lang_checks.specs.CheckedProgram.{IsChecked}
use Rattle.recomposer.specs.declared.composition.Composition.{Composition}
use Rattle.recomposer.specs.declared.composition.FrameStop.{FrameStop}
use Rattle.recomposer.specs.declared.composition.FrameStop.TheVariants.{TooManyGroups, ApplierFault, Spent, NoMemory}
use Rattle.recomposer.specs.AppliedFrames.{kept_after_fault, ops_of}

-- The kept forest is that of composing in the map `seen`, it has few enough groups, and only nodes have numbers.
pub record IsKept (p : Program) (seen : Map) (trail : GroupForest) : Type 0 where
  pub composed : without_numbers trail ≡ forest (functions_of p) (root_of p) seen
  pub few : how_many (forest (functions_of p) (root_of p) seen) ≤ most_groups
  pub numbered : IsNumbered trail

-- Before the first good frame no group is kept and everything is owed. After it the forest of its map is kept, and of
-- the program's states those are owed whose stamps differ between that map and the watcher's last map `last`, which is
-- later.
abbrev pub Owes : Program → Option Map → GroupForest → Option Map → OwedObjects → Type 0
Owes p None trail last owed = (trail ≡ End) × (owed.all ≡ true)
Owes p (Some seen) trail None owed = ⊥
Owes p (Some seen) trail (Some last) owed =
    (owed.all ≡ false) × Follows seen last
    × ((x : ℕ) → x < length p.states.items → contains x owed.objects ≡ contains x (differ (Some seen) last))
    × IsKept p seen trail

-- Node numbers begin at 1: the next one is at least 1, and no kept node has the number 0.
abbrev pub CountsFromOne : LastFrame → Type 0
CountsFromOne k = (1 ≤ k.next) × (how_often 0 k.trail ≡ 0)

-- The composition of a checked program has kept the state `k` of the last good frame: its groups, whose nodes have
-- distinct numbers from 1, the next node number, and what is owed. `last` is the watcher's last map.
pub record IsAt (c : Composition) (k : LastFrame) (last : Option Map) : Type 0 where
  pub checked : IsChecked (program_view c.program.now)
  pub holds : Holds c.held k
  pub owes : Owes c.program.now k.seen k.trail last c.owed
  pub numbers : AreDistinct k.trail k.next
  pub from_one : CountsFromOne k
  pub states : c.owed.states ≡ length c.program.now.states.items
  pub groups : c.groups ≡ how_many k.trail
  pub nodes : c.nodes ≡ how_many_nodes k.trail

-- What is kept after a frame that was refused, where `last` is the watcher's last map: the same, except after a fault
-- of the applier.
abbrev pub kept_after_stop : Program → LastFrame → Option Map → FrameStop → LastFrame
kept_after_stop p k None stop = k
kept_after_stop p k (Some m) ApplierFault = kept_after_fault k (frame (functions_of p) k m)
kept_after_stop p k (Some m) TooManyGroups = k
kept_after_stop p k (Some m) Spent = k
kept_after_stop p k (Some m) NoMemory = k

-- No frame begins if the clock `k` is at its limit, and the clock is at its limit if the frame stops as `Spent`. A
-- frame with too many groups or with a fault of the applier has begun.
abbrev pub StopsAtEnd : (ℕ → Type 0) → ℕ → {U : Type 0} → Result U FrameStop → Type 0
StopsAtEnd clock k (Ok u) = k ≡ clock_limit → ⊥
StopsAtEnd clock k (Err Spent) = clock clock_limit
StopsAtEnd clock k (Err NoMemory) = Unit {0}
StopsAtEnd clock k (Err TooManyGroups) = k ≡ clock_limit → ⊥
StopsAtEnd clock k (Err ApplierFault) = k ≡ clock_limit → ⊥

-- The reply of the take of a frame that did not begin.
abbrev pub refused_take : FrameStop → Reply
refused_take Spent = reply.Refused refusal.Spent
refused_take NoMemory = reply.Refused refusal.NoMemory
refused_take TooManyGroups = reply.Refused refusal.NoMemory
refused_take ApplierFault = reply.Refused refusal.NoMemory

-- The reads of a frame: those of the calls that run.
abbrev pub frame_reads : Program → LastFrame → Map → List ℕ
frame_reads p k m = reads (differ k.seen m) k.trail (forest (functions_of p) (root_of p) m)

-- There was a good frame, and no call of the kept groups has among its own reads an object that changed between the map
-- of that frame and the map `m`.
abbrev pub OwesNoCall : LastFrame → Map → Type 0
OwesNoCall k m = (is_none k.seen ≡ false) × IsQuiet (differ k.seen m) k.trail

-- The kept state with the same groups and numbers and the map of a new frame.
abbrev pub seen_again : LastFrame → Map → LastFrame
seen_again k m = record { seen = Some m; trail = k.trail; next = k.next }

-- The frame in the map `m` after the kept state `k` keeps all groups with their numbers. It runs, calculates and reads
-- nothing, and makes no call on an applier.
pub record ChangesNothing (p : Program) (k : LastFrame) (m : Map) : Type 0 where
  pub is : frame (functions_of p) k m ≡ Some (record { left = seen_again k m; told = unchanged_report k.trail })
  pub reads_none : frame_reads p k m ≡ []
  pub calls_none : ops_of k (frame (functions_of p) k m) ≡ []

-- A frame begins well: a map is shown, which is the watcher's last map from now on, and `changed` lists what changed
-- since the watcher's last map before.
pub record BeginsFrame (at_map : Option Map → Type 0) (shows : Map → Type 0) (last : Option Map → Type 0)
    (l : Option Map) (name : ℕ) (changed : List ℕ) : Type 0 where
  pub map : Map
  pub at_now : at_map (Some map)
  pub shown : shows map
  pub is_last : last (Some map)
  pub changed_is : changed ≡ differ l map
  pub inner : 0 < name

-- A log grew by reads of these objects and the dispose.
pub record Ended (old : List Entry) (new : Option (List Entry)) (caller name : ℕ) (xs : List ℕ) : Type 0 where
  pub more : List Entry
  pub log_is : new
      ≡ Some (old ++ more ++ record { caller = caller; request = Dispose name; reply = reply.Disposed } ∷ [])
  pub reads : map call_of more ≡ reads_of caller name xs

abbrev pub EndsFrame : Option (List Entry) → Option (List Entry) → ℕ → ℕ → List ℕ → Type 0
EndsFrame None new caller name xs = new ≡ None
EndsFrame (Some old) new caller name xs = Ended old new caller name xs

-- A log grew by a first part of these reads and the dispose.
pub record EndsPart (old new : Option (List Entry)) (caller name : ℕ) (all : List ℕ) : Type 0 where
  pub xs : List ℕ
  pub rest : List ℕ
  pub is : xs ++ rest ≡ all
  pub ends : EndsFrame old new caller name xs

-- What the end of a frame adds to a log, whatever its result: the list of reads and the log grew by the same reads of
-- the frame's snapshot, and then came the dispose with some reply. The snapshot was disposed if the frame is good, and
-- whenever the desk showed it and it is not global.
pub record ClosesFrame {U : Type 0} (shows : Map → Type 0) (asked asked' : List ℕ) (old new : Option (List Entry))
    (caller name : ℕ) (result : Result U FrameStop) : Type 0 where
  pub xs : List ℕ
  pub asks : asked' ≡ asked ++ xs
  pub after_reads : Option (List Entry)
  pub reads : LogsReads old after_reads caller name xs
  pub answer : Reply
  pub closes : Logs after_reads new caller (Dispose name) answer
  pub good : OnOk result (answer ≡ reply.Disposed)
  pub shown : (m : Map) → shows m → 0 < name → answer ≡ reply.Disposed

-- A take for a watcher is for watcher `n`.
abbrev pub IsTakeOnlyFor : ℕ → Request → Type 0
IsTakeOnlyFor n (TakeFor watcher) = watcher ≡ n
IsTakeOnlyFor n _ = Unit {0}

-- Each take for a watcher is for watcher `n`.
abbrev pub TakesOnlyFor : ℕ → List Entry → Type 0
TakesOnlyFor n [] = Unit {0}
TakesOnlyFor n (e ∷ es) = IsTakeOnlyFor n e.request × TakesOnlyFor n es

-- A log grew by calls that take for no watcher except `n`.
pub record GrownFor (n : ℕ) (old : List Entry) (new : Option (List Entry)) : Type 0 where
  pub more : List Entry
  pub log_is : new ≡ Some (old ++ more)
  pub only : TakesOnlyFor n more

abbrev pub GrowsFor : ℕ → Option (List Entry) → Option (List Entry) → Type 0
GrowsFor n None new = new ≡ None
GrowsFor n (Some old) new = GrownFor n old new

-- A log grew by a whole frame: the take for a watcher, the reads of these objects, and the dispose.
pub record WholeFrame (old : List Entry) (new : Option (List Entry)) (caller watcher : ℕ) (xs : List ℕ) : Type 0 where
  pub name : ℕ
  pub changed : List ℕ
  pub rest : Ended
      (old ++ record { caller = caller; request = TakeFor watcher; reply = reply.TakenFor name changed } ∷ [])
      new caller name xs

abbrev pub LogsFrame : Option (List Entry) → Option (List Entry) → ℕ → ℕ → List ℕ → Type 0
LogsFrame None new caller watcher xs = new ≡ None
LogsFrame (Some old) new caller watcher xs = WholeFrame old new caller watcher xs

-- The list of reads grew by some reads, and the log by a whole frame with these reads.
pub record MakesReads (asked asked' : List ℕ) (old new : Option (List Entry)) (caller watcher : ℕ) : Type 0 where
  pub xs : List ℕ
  pub asks : asked' ≡ asked ++ xs
  pub logs : LogsFrame old new caller watcher xs

-- A log grew by a whole frame with a first part of these reads.
pub record PartOfFrame (old new : Option (List Entry)) (caller watcher : ℕ) (all : List ℕ) : Type 0 where
  pub xs : List ℕ
  pub rest : List ℕ
  pub is : xs ++ rest ≡ all
  pub logs : LogsFrame old new caller watcher xs

-- What a frame that has begun and was not made adds to a log, `last` being the watcher's last map then: the take, a
-- first part of the reads that the frame owes in this map, and the dispose.
abbrev pub LogsBegunFrame : Program → LastFrame → Option (List Entry) → Option (List Entry) → ℕ → ℕ → Option Map
    → Type 0
LogsBegunFrame p k old new caller watcher last =
    (m : Map) × (last ≡ Some m) × PartOfFrame old new caller watcher (frame_reads p k m)

-- What a frame that was not made adds to a log. Without a good take it stopped for the clock, and the log has the
-- refusal, or it was out of memory. All other frames have begun.
abbrev pub LogsNoFrame : Program → LastFrame → Option (List Entry) → Option (List Entry) → ℕ → ℕ → FrameStop
    → Option Map → Type 0
LogsNoFrame p k old new caller watcher Spent last = Logs old new caller (TakeFor watcher) (refused_take Spent)
LogsNoFrame p k old new caller watcher NoMemory last =
    Logs old new caller (TakeFor watcher) (refused_take NoMemory)
    ⊎ LogsBegunFrame p k old new caller watcher last
LogsNoFrame p k old new caller watcher TooManyGroups last = LogsBegunFrame p k old new caller watcher last
LogsNoFrame p k old new caller watcher ApplierFault last = LogsBegunFrame p k old new caller watcher last

-- A frame was made in the map `map` after the kept state `k`: `at_frame` and `last` say what is kept and which map is
-- the watcher's last one, `told` is the report, `does` says what the frame's reads did, and `applies` what the applier
-- did. If no call is owed, the frame changes nothing.
pub record MakesFrame (p : Program) (k : LastFrame) (at_frame : LastFrame → Option Map → Type 0)
    (last : Option Map → Type 0) (does : List ℕ → Type 0) (applies : Option FrameResult → Type 0)
    (told : Report) : Type 0 where
  pub map : Map
  pub is_at : at_frame (kept_after k (frame (functions_of p) k map)) (Some map)
  pub is_last : last (Some map)
  pub told_is : Some told ≡ option_map (λ g. g.told) (frame (functions_of p) k map)
  pub done : does (frame_reads p k map)
  pub applied : applies (frame (functions_of p) k map)
  pub quiet : OwesNoCall k map → ChangesNothing p k map

-- The frame of the watcher's last map `last` had a result, and `does` says what its reads did.
pub record HadResult (p : Program) (k : LastFrame) (does : List ℕ → Type 0) (last : Option Map) : Type 0 where
  pub map : Map
  pub is : last ≡ Some map
  pub made : frame (functions_of p) k map ≡ None → ⊥
  pub done : does (frame_reads p k map)

-- A frame was not made: the kept state stays, except after a fault of the applier, and what changed up to the watcher's
-- last map is owed. `logs` says what the log is then. If there are too many groups, the frame of that map has no
-- result. A frame with a fault of the applier had a result, `does` says what its reads did, and the composition is
-- detached after it.
pub record MakesNoFrame (p : Program) (k : LastFrame) (at_frame : LastFrame → Option Map → Type 0)
    (last : Option Map → Type 0) (does : List ℕ → Type 0) (logs : FrameStop → Option Map → Type 0)
    (stop : FrameStop) : Type 0 where
  pub map : Option Map
  pub is_at : at_frame (kept_after_stop p k map stop) map
  pub is_last : last map
  pub log_is : logs stop map
  pub many : stop ≡ TooManyGroups → (m : Map) × (map ≡ Some m) × (frame (functions_of p) k m ≡ None)
  pub fault : stop ≡ ApplierFault → HadResult p k does map
  pub detached : stop ≡ ApplierFault → is_detached (kept_after_stop p k map stop) ≡ true

-- The world after a frame: after its take and its dispose. The reads change no world.
abbrev pub world_of_frame : {P : Type 0} → Rules P → World P → ℕ → ℕ → World P
world_of_frame rules w caller watcher =
    (call rules (call rules w caller (TakeFor watcher)).0 caller (Dispose (length w.snapshots))).0
