-- Trusted: what a run adds to the log of a world: its calls, and which objects each frame reads.
use Rattle.std.specs.Prelude.{◌≡◌, ◌⊎◌, ◌≤◌, ℕ, List, [], ◌∷◌, ◌++◌, All, Option, Some, None, length, if◌then◌else◌}
use Rattle.rt_values.specs.Maps.{Map, differ}
use Rattle.rt_groups.specs.Frames.{LastFrame, reads}
use Rattle.lang_ast.specs.Terms.{Func}
use Rattle.lang_ast.specs.Programs.{root_number}
use Rattle.compose_model.specs.Composing.{forest}
use Rattle.compose_model.specs.Frame.{FrameResult, frame}
use Rattle.snap_policy.specs.Table.{table}
use Rattle.snap_api.specs.declared.data.Entry.{Entry}
use Rattle.snap_api.specs.declared.data.Request.{Request}
use Rattle.snap_api.specs.declared.data.Request.TheVariants as request
use Rattle.snap_api.specs.World.{History, IsLegal, snapshot_of}
use Rattle.lang_script.specs.StepCalls.{ActorPart, no_notes, opening_world, sequential}
use Rattle.script_lang.specs.Lines.{Titles, LineStyle, Standing, initial_standing, next, ends_frame, name_in, run_text}
use Rattle.script_lang.specs.PrintedCalls.{reads_frame, printed_calls}
use Rattle.play_run.specs.RunPromise.{WritesAtLeast}

-- The object of a read.
abbrev pub object_read : Request → ℕ
object_read (request.Read name x) = x
object_read _ = 0

-- A frame that a history ends: what was kept before it, the map of its snapshot, and the objects that it read, in
-- order.
pub record FrameReads : Type 0 where
  pub kept : LastFrame
  pub map : Map
  pub reads : List ℕ

-- The frames that a history ends, from a state of the walk on. The open frame has read the objects `xs` so far.
abbrev pub frames_in : List Func → Standing → List ℕ → History → List FrameReads
frames_in functions s xs [] = []
frames_in functions s xs (e ∷ es) =
    if reads_frame s.frames e.request then frames_in functions s (xs ++ object_read e.request ∷ []) es
    else if ends_frame s.frames e.request
    then record { kept = s.kept; map = (snapshot_of s.world (name_in e.request)).view; reads = xs }
    ∷ frames_in functions (next functions s e) [] es
    else frames_in functions (next functions s e) xs es

-- The reads of the calls that a frame in the map `m` runs, if the limit on groups is left out.
abbrev pub owed_reads : List Func → LastFrame → Map → List ℕ
owed_reads functions k m = reads (differ k.seen m) k.trail (forest functions (root_number functions) m)

-- A good frame made all these reads, and a refused frame a first part.
abbrev pub ReadsForResult : Option FrameResult → List ℕ → List ℕ → Type 0
ReadsForResult None all xs = (rest : List ℕ) × (xs ++ rest ≡ all)
ReadsForResult (Some good) all xs = xs ≡ all

-- A frame read exactly what it owes, or a first part of that if it was refused because it has too many groups.
abbrev pub ReadsOwed : List Func → FrameReads → Type 0
ReadsOwed functions f = ReadsForResult (frame functions f.kept f.map) (owed_reads functions f.kept f.map) f.reads

-- A log grew by the calls of these parts. Each reply is the plain world's. The printed calls are those that the steps
-- make one after the other, and each frame read what it owes.
pub record RunLogged (t : Titles) (functions : List Func) (parts : List ActorPart) (old : List Entry)
    (new : Option (List Entry)) : Type 0 where
  pub more : History
  pub log_is : new ≡ Some (old ++ more)
  pub legal : IsLegal table (opening_world t.states) more
  pub printed_is : printed_calls [] more ≡ sequential (opening_world t.states) no_notes parts
  pub frames_read : All (ReadsOwed functions) (frames_in functions (initial_standing t.states) [] more)

-- The log grew so, if there is one.
abbrev pub LogsRun : Titles → List Func → List ActorPart → Option (List Entry) → Option (List Entry) → Type 0
LogsRun t functions parts None new = new ≡ None
LogsRun t functions parts (Some old) new = RunLogged t functions parts old new

-- A run stopped before its end. A log grew by calls whose replies are the plain world's. The printed calls among them
-- are those of the parts `whole` and of at most one part more, and the lines of the parts `whole` were written.
pub record RunStopped (style : LineStyle) (functions : List Func) (parts : List ActorPart) (old : List Entry)
    (new : Option (List Entry)) (before now : Option (List ℕ)) : Type 0 where
  pub whole : List ActorPart
  pub last : List ActorPart
  pub rest : List ActorPart
  pub split : whole ++ (last ++ rest) ≡ parts
  pub one : length last ≤ 1
  pub more : History
  pub log_is : new ≡ Some (old ++ more)
  pub legal : IsLegal table (opening_world style.titles.states) more
  pub printed_is : printed_calls [] more ≡ sequential (opening_world style.titles.states) no_notes (whole ++ last)
  pub wrote : WritesAtLeast before now (run_text style functions whole)

-- The log, if there is one, is unchanged or grew so.
abbrev pub StopsRun : LineStyle → List Func → List ActorPart → Option (List Entry) → Option (List Entry)
    → Option (List ℕ) → Option (List ℕ) → Type 0
StopsRun style functions parts None new before now = new ≡ None
StopsRun style functions parts (Some old) new before now =
    (new ≡ Some old) ⊎ RunStopped style functions parts old new before now
