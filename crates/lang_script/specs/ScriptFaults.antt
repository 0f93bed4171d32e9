-- Trusted: the faults of scripts.
use Rattle.std.specs.Prelude.{ℕ, ◌-◌, ◌==◌, nat_lt, nat_le, not, ◌&&◌, ◌||◌, List, [], ◌∷◌, ◌++◌, Bool, true, false, length, map, ℤ, slice_get, Option, Some, None, if◌then◌else◌}
use Rattle.rt_values.specs.declared.value.Ty.{Ty}
use Rattle.rt_values.specs.declared.value.Ty.TheVariants as ty
use Rattle.lang_ast.specs.declared.program.State.{State}
use Rattle.lang_ast.specs.declared.script.SnapshotRef.{SnapshotRef}
use Rattle.lang_ast.specs.declared.script.SnapshotRef.TheVariants.{Global, Named}
use Rattle.lang_ast.specs.declared.script.CallForm.{CallForm}
use Rattle.lang_ast.specs.declared.script.CallForm.TheVariants.{Take, Read, Write, Add, Apply, Dispose}
use Rattle.lang_ast.specs.declared.script.StepForm.{StepForm}
use Rattle.lang_ast.specs.declared.script.StepForm.TheVariants.{Call, Frame, FrameDuring}
use Rattle.lang_ast.specs.declared.script.ScriptForm.{ScriptForm}
use Rattle.lang_ast.specs.declared.script.ScriptForm.TheVariants.{Once, Repeat}
use Rattle.lang_ast.specs.declared.script.DoForm.{DoForm}
use Rattle.lang_script.specs.SnapshotNames.{NamedNumber, latest}
use Rattle.lang_script.specs.Scripts.{actors_of, index_of, is_among, times_of, forms_count}
use Rattle.lang_script.specs.declared.faults.ScriptStop.{ScriptStop}
use Rattle.lang_script.specs.declared.faults.ScriptStop.TheVariants as stop

-- The fault, if the test is true.
abbrev pub fault_if : Bool → ScriptStop → List ScriptStop
fault_if b f = if b then f ∷ [] else []

-- The greatest number of steps of a script, with repeats written out.
abbrev pub most_steps : ℕ
most_steps = 65536

-- Limits.

-- The fault of the first token of the script that exceeds its limit, if there is one.
abbrev pub oversized_faults : Option ℕ → List ScriptStop
oversized_faults None = []
oversized_faults (Some at) = stop.Limit at ∷ []

-- The faults of the forms that have a step after the first `left` steps of the script.
abbrev pub long_forms : ℕ → List DoForm → List ScriptStop
long_forms left [] = []
long_forms left (d ∷ more) =
    fault_if (nat_lt left (forms_count d.steps)) (stop.Limit d.at) ++ long_forms (left - forms_count d.steps) more

-- The faults of the forms of a ninth actor and of any later one. `actors` are the first eight.
abbrev pub further_actors : List (List ℕ) → List DoForm → List ScriptStop
further_actors actors [] = []
further_actors actors (d ∷ more) =
    fault_if (not (is_among d.actor.text actors)) (stop.Limit d.at) ++ further_actors actors more

-- Whether a repeat may have this number.
abbrev pub may_repeat : ℤ → Bool
may_repeat z = nat_le 1 (times_of z) && nat_le (times_of z) 1000

-- The faults of repeats whose number is less than 1 or more than 1,000.
abbrev pub wrong_repeats : List ScriptForm → List ScriptStop
wrong_repeats [] = []
wrong_repeats (Once s ∷ more) = wrong_repeats more
wrong_repeats (Repeat at times steps ∷ more) =
    fault_if (not (may_repeat times)) (stop.Limit at) ++ wrong_repeats more

abbrev pub forms_wrong_repeats : List DoForm → List ScriptStop
forms_wrong_repeats [] = []
forms_wrong_repeats (d ∷ more) = wrong_repeats d.steps ++ forms_wrong_repeats more

-- Names.

-- A step of the source text: one without inner steps, or a frame, of the actor with this number.
pub data TextStep : Type 0 where
  CallStep : (actor : ℕ) → (call : CallForm) → TextStep
  FrameStep : (actor at : ℕ) → TextStep

-- The steps of the source text, in its order. Repeats count once.
abbrev pub text_calls : ℕ → List CallForm → List TextStep
text_calls actor calls = map (CallStep actor) calls

abbrev pub text_step : ℕ → StepForm → List TextStep
text_step actor (Call c) = CallStep actor c ∷ []
text_step actor (Frame at) = FrameStep actor at ∷ []
text_step actor (FrameDuring at during) = FrameStep actor at ∷ text_calls actor during

abbrev pub text_steps : ℕ → List StepForm → List TextStep
text_steps actor [] = []
text_steps actor (s ∷ more) = text_step actor s ++ text_steps actor more

abbrev pub text_form : ℕ → ScriptForm → List TextStep
text_form actor (Once s) = text_step actor s
text_form actor (Repeat at times steps) = text_steps actor steps

abbrev pub text_forms : ℕ → List ScriptForm → List TextStep
text_forms actor [] = []
text_forms actor (f ∷ more) = text_form actor f ++ text_forms actor more

abbrev pub text_script : List (List ℕ) → List DoForm → List TextStep
text_script actors [] = []
text_script actors (d ∷ more) = text_forms (index_of d.actor.text actors) d.steps ++ text_script actors more

-- What the steps so far say of names: the actor of the first take of each name, and that of the first frame.
pub record FirstUses : Type 0 where
  pub takers : List NamedNumber
  pub framer : Option ℕ

-- The uses before the first step.
abbrev pub no_uses : FirstUses
no_uses = record { takers = []; framer = None }

-- The actor of a take, if it is the first take of that name.
abbrev pub with_taker : List NamedNumber → List ℕ → ℕ → Option ℕ → List NamedNumber
with_taker takers name actor (Some first) = takers
with_taker takers name actor None = record { name = name; number = actor } ∷ takers

abbrev pub with_framer : Option ℕ → ℕ → Option ℕ
with_framer (Some first) actor = Some first
with_framer None actor = Some actor

abbrev pub uses_after_call : FirstUses → ℕ → CallForm → FirstUses
uses_after_call u actor (Take at name kind parent) =
    record { takers = with_taker u.takers name.text actor (latest u.takers name.text); framer = u.framer }
uses_after_call u actor _ = u

abbrev pub uses_after : FirstUses → TextStep → FirstUses
uses_after u (CallStep actor c) = uses_after_call u actor c
uses_after u (FrameStep actor at) = record { takers = u.takers; framer = with_framer u.framer actor }

-- The fault of a step that names a snapshot without an earlier take of that name.
abbrev pub unknown_name : ℕ → Option ℕ → List ScriptStop
unknown_name at None = stop.Unknown at ∷ []
unknown_name at (Some taker) = []

-- The fault of a step of one actor, with a name that another actor takes first.
abbrev pub foreign_name : ℕ → ℕ → Option ℕ → List ScriptStop
foreign_name at actor None = []
foreign_name at actor (Some taker) = fault_if (not (taker == actor)) (stop.Actor at)

-- The faults of the snapshot that a step names. `threads`: whether each actor has names of its own.
abbrev pub snapshot_faults : Bool → FirstUses → ℕ → ℕ → SnapshotRef → List ScriptStop
snapshot_faults threads u actor at Global = []
snapshot_faults threads u actor at (Named name) =
    unknown_name at (latest u.takers name.text)
    ++ (if threads then foreign_name at actor (latest u.takers name.text) else [])

-- The fault of a step that names an undeclared state. `states` are the declared ones.
abbrev pub state_faults : List State → ℕ → ℕ → List ScriptStop
state_faults states at x = fault_if (not (nat_lt x (length states))) (stop.Unknown at)

abbrev pub is_int : Ty → Bool
is_int ty.Int = true
is_int _ = false

-- The fault of an `add` on a state that is not an Int.
abbrev pub add_faults : ℕ → Option State → List ScriptStop
add_faults at None = []
add_faults at (Some s) = fault_if (not (is_int s.ty)) (stop.Type at)

module _ (threads : Bool) (states : List State) where
  abbrev pub call_faults : FirstUses → ℕ → CallForm → List ScriptStop
  call_faults u actor (Take at name kind parent) =
      snapshot_faults threads u actor at parent
      ++ (if threads then foreign_name at actor (latest u.takers name.text) else [])
  call_faults u actor (Read at snapshot state x) =
      snapshot_faults threads u actor at snapshot ++ state_faults states at x
  call_faults u actor (Write at snapshot state x value) =
      snapshot_faults threads u actor at snapshot ++ state_faults states at x
  call_faults u actor (Add at snapshot state x amount) =
      snapshot_faults threads u actor at snapshot ++ (state_faults states at x ++ add_faults at (slice_get states x))
  call_faults u actor (Apply at snapshot) = snapshot_faults threads u actor at snapshot
  call_faults u actor (Dispose at snapshot) = snapshot_faults threads u actor at snapshot

  -- With `threads` only the actor of the first frame may have frames.
  abbrev pub frame_faults : FirstUses → ℕ → ℕ → List ScriptStop
  frame_faults u actor at = if threads then foreign_name at actor u.framer else []

  abbrev pub step_faults : FirstUses → TextStep → List ScriptStop
  step_faults u (CallStep actor c) = call_faults u actor c
  step_faults u (FrameStep actor at) = frame_faults u actor at

  -- The faults of steps after those with the uses `u`, in the order of the text.
  abbrev pub steps_faults : FirstUses → List TextStep → List ScriptStop
  steps_faults u [] = []
  steps_faults u (s ∷ more) = step_faults u s ++ steps_faults (uses_after u s) more

  -- All faults of a script. `first_oversized` is the offset of the first token that exceeds its limit.
  abbrev pub script_faults : Option ℕ → List DoForm → List ScriptStop
  script_faults first_oversized forms =
      oversized_faults first_oversized ++ (long_forms most_steps forms ++ (further_actors (actors_of forms) forms
      ++ (forms_wrong_repeats forms ++ steps_faults no_uses (text_script (actors_of forms) forms))))

-- The pass that finds a fault: limits, then unknown names, then types, then actors.
abbrev pub pass_of : ScriptStop → ℕ
pass_of (stop.Limit at) = 0
pass_of (stop.Unknown at) = 1
pass_of (stop.Type at) = 2
pass_of (stop.Actor at) = 3
pass_of stop.NoMemory = 4

abbrev pub offset_of : ScriptStop → ℕ
offset_of (stop.Limit at) = at
offset_of (stop.Unknown at) = at
offset_of (stop.Type at) = at
offset_of (stop.Actor at) = at
offset_of stop.NoMemory = 0

-- A fault of an earlier pass goes before one of a later pass; of two faults of one pass the lesser offset goes first.
abbrev pub goes_before : ScriptStop → ScriptStop → Bool
goes_before f g = nat_lt (pass_of f) (pass_of g) || ((pass_of f == pass_of g) && nat_lt (offset_of f) (offset_of g))

-- The fault that goes first, of an earlier one and `f`.
unfoldable pub first_fault : Option ScriptStop → ScriptStop → Option ScriptStop
first_fault None f = Some f
first_fault (Some g) f = if goes_before f g then Some f else Some g

-- The fault that goes first, of an earlier one and a list.
abbrev pub first_of_faults : Option ScriptStop → List ScriptStop → Option ScriptStop
first_of_faults o [] = o
first_of_faults o (f ∷ fs) = first_of_faults (first_fault o f) fs

-- Why a script is rejected: its fault that goes first.
abbrev pub script_refusal : Bool → List State → Option ℕ → List DoForm → Option ScriptStop
script_refusal threads states first_oversized forms =
    first_of_faults None (script_faults threads states first_oversized forms)
