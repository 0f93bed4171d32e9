-- Trusted: the calls that the steps of a script make, by the replies to earlier calls, and the history of a run.
use Rattle.std.specs.Prelude.{ℕ, List, [], ◌∷◌, ◌++◌, map, ℤ, Option, Some, None}
use Rattle.rt_values.specs.declared.names.Kind.{Kind}
use Rattle.rt_values.specs.declared.value.Value.{Value}
use Rattle.rt_values.specs.declared.value.Value.TheVariants.{Int}
use Rattle.rt_values.specs.Values.{type_of}
use Rattle.rt_values.specs.Operators.{sum_of}
use Rattle.snap_policy.specs.declared.policy.BuiltIn.{BuiltIn}
use Rattle.snap_policy.specs.Table.{table}
use Rattle.snap_api.specs.declared.data.Request.{Request}
use Rattle.snap_api.specs.declared.data.Request.TheVariants as request
use Rattle.snap_api.specs.declared.data.Reply.{Reply}
use Rattle.snap_api.specs.declared.data.Reply.TheVariants as reply
use Rattle.snap_api.specs.declared.data.Entry.{Entry}
use Rattle.snap_api.specs.World.{World, History, call, world_after_make, world_after_watch, start}
use Rattle.lang_ast.specs.declared.program.State.{State}
use Rattle.lang_ast.specs.declared.script.SnapshotRef.{SnapshotRef}
use Rattle.lang_ast.specs.declared.script.CallForm.{CallForm}
use Rattle.lang_ast.specs.declared.script.CallForm.TheVariants as form
use Rattle.lang_ast.specs.declared.script.StepForm.{StepForm}
use Rattle.lang_ast.specs.declared.script.StepForm.TheVariants as step
use Rattle.lang_ast.specs.declared.script.DoForm.{DoForm}
use Rattle.lang_script.specs.SnapshotNames.{NamedNumber, snapshot_number, never_taken}
use Rattle.lang_script.specs.Scripts.{index_of, written_out}

-- The number of the one watcher of frames.
abbrev pub watcher_number : ℕ
watcher_number = 0

-- What steps consist of. Each part makes at most one call: an `add` is a read and a write of the sum, a frame is the
-- take of its snapshot, the inner steps and the dispose of that snapshot.
pub data Part : Type 0 where
  Take : (name : List ℕ) → (kind : Kind) → (parent : SnapshotRef) → Part
  Read : (snapshot : SnapshotRef) → (object : ℕ) → Part
  Write : (snapshot : SnapshotRef) → (object : ℕ) → (value : Value) → Part
  WriteSum : (snapshot : SnapshotRef) → (object : ℕ) → (amount : ℤ) → Part
  Apply : (snapshot : SnapshotRef) → Part
  Dispose : (snapshot : SnapshotRef) → Part
  BeginFrame : Part
  EndFrame : Part

-- The parts of a step without inner steps.
abbrev pub call_parts : CallForm → List Part
call_parts (form.Take at name kind parent) = Take name.text kind parent ∷ []
call_parts (form.Read at snapshot state x) = Read snapshot x ∷ []
call_parts (form.Write at snapshot state x value) = Write snapshot x value ∷ []
call_parts (form.Add at snapshot state x amount) = Read snapshot x ∷ WriteSum snapshot x amount ∷ []
call_parts (form.Apply at snapshot) = Apply snapshot ∷ []
call_parts (form.Dispose at snapshot) = Dispose snapshot ∷ []

abbrev pub calls_parts : List CallForm → List Part
calls_parts [] = []
calls_parts (c ∷ more) = call_parts c ++ calls_parts more

abbrev pub step_parts : StepForm → List Part
step_parts (step.Call c) = call_parts c
step_parts (step.Frame at) = BeginFrame ∷ EndFrame ∷ []
step_parts (step.FrameDuring at during) = BeginFrame ∷ (calls_parts during ++ EndFrame ∷ [])

abbrev pub steps_parts : List StepForm → List Part
steps_parts [] = []
steps_parts (s ∷ more) = step_parts s ++ steps_parts more

-- A part of a step of the actor with this number.
pub record ActorPart : Type 0 where
  pub actor : ℕ
  pub part : Part

abbrev pub of_actor : ℕ → Part → ActorPart
of_actor actor part = record { actor = actor; part = part }

-- The parts of all steps of a script, with repeats written out, in the order of the text. `actors` are the actors'
-- names by number.
abbrev pub script_parts : List (List ℕ) → List DoForm → List ActorPart
script_parts actors [] = []
script_parts actors (d ∷ more) =
    map (of_actor (index_of d.actor.text actors)) (steps_parts (written_out d.steps)) ++ script_parts actors more

-- What later calls depend on: the table of snapshot names, the value of the last read if it was not refused, and the
-- snapshot of the open frame.
pub record Notes : Type 0 where
  pub names : List NamedNumber
  pub value : Option Value
  pub frame : Option ℕ

-- The notes before the first step.
abbrev pub no_notes : Notes
no_notes = record { names = []; value = None; frame = None }

-- The write of a sum, if the last read gave a number.
abbrev pub sum_request : ℕ → ℕ → ℤ → Option Value → Option Request
sum_request name x amount (Some (Int z)) = Some (request.Write name x (Int (sum_of z amount)))
sum_request name x amount _ = None

-- The dispose of the open frame's snapshot, if there is one.
abbrev pub end_request : Option ℕ → Option Request
end_request None = None
end_request (Some name) = Some (request.Dispose name)

-- The call that a part makes, if it makes one.
abbrev pub request_of : Notes → Part → Option Request
request_of n (Take name kind parent) = Some (request.Take (snapshot_number n.names parent) kind)
request_of n (Read snapshot x) = Some (request.Read (snapshot_number n.names snapshot) x)
request_of n (Write snapshot x value) = Some (request.Write (snapshot_number n.names snapshot) x value)
request_of n (WriteSum snapshot x amount) = sum_request (snapshot_number n.names snapshot) x amount n.value
request_of n (Apply snapshot) = Some (request.Apply (snapshot_number n.names snapshot))
request_of n (Dispose snapshot) = Some (request.Dispose (snapshot_number n.names snapshot))
request_of n BeginFrame = Some (request.TakeFor watcher_number)
request_of n EndFrame = end_request n.frame

-- The number of the snapshot that a take gave, or a number that no snapshot has.
abbrev pub number_taken : Reply → ℕ
number_taken (reply.Taken name) = name
number_taken _ = never_taken

abbrev pub value_read : Reply → Option Value
value_read (reply.Got v) = Some v
value_read _ = None

abbrev pub frame_begun : Reply → Option ℕ
frame_begun (reply.TakenFor name changed) = Some name
frame_begun _ = None

-- The notes after the reply to the call of a part.
abbrev pub notes_after : Notes → Part → Reply → Notes
notes_after n (Take name kind parent) r = record n { names = record { name = name; number = number_taken r } ∷ n.names }
notes_after n (Read snapshot x) r = record n { value = value_read r }
notes_after n (Write snapshot x value) r = n
notes_after n (WriteSum snapshot x amount) r = n
notes_after n (Apply snapshot) r = n
notes_after n (Dispose snapshot) r = n
notes_after n BeginFrame r = record n { frame = frame_begun r }
notes_after n EndFrame r = record n { frame = None }

-- A call of an actor with the plain world's reply.
abbrev pub entry : World BuiltIn → ℕ → Request → Entry
entry w actor q = record { caller = actor; request = q; reply = (call table w actor q).1 }

-- The history of a run: the calls that the parts make one after the other, each with the plain world's reply. The reads
-- of frames are left out. All actors share one table of names.
abbrev pub sequential : World BuiltIn → Notes → List ActorPart → History
sequential w n [] = []
sequential w n (p ∷ more) = elim (request_of n p.part) [
  | None ↦ sequential w n more
  | Some q ↦ entry w p.actor q
      ∷ sequential (call table w p.actor q).0 (notes_after n p.part (call table w p.actor q).1) more
]

-- The world after the program's states are made, in order.
abbrev pub with_states : World BuiltIn → List State → World BuiltIn
with_states w [] = w
with_states w (s ∷ more) = with_states (world_after_make w (type_of s.initial) s.policy s.initial) more

-- The world in which a script begins: the program's states, and one watcher.
abbrev pub opening_world : List State → World BuiltIn
opening_world states = world_after_watch (with_states (start 0) states)
