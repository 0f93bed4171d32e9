-- No fault of a script is out of memory.
use Rattle.std.proofs.Common.{◌≢◌, ◌-◌, ◌==◌, nat_lt, not, ℕ, List, [], ◌∷◌, ◌++◌, Bool, true, false, cond, length, ap, Option, Some, None, slice_get}
use Rattle.lang_ast.specs.declared.program.State.{State}
use Rattle.lang_ast.specs.declared.script.SnapshotRef.{SnapshotRef}
use Rattle.lang_ast.specs.declared.script.SnapshotRef.TheVariants.{Global, Named}
use Rattle.lang_ast.specs.declared.script.CallForm.{CallForm}
use Rattle.lang_ast.specs.declared.script.CallForm.TheVariants.{Take, Read, Write, Add, Apply, Dispose}
use Rattle.lang_ast.specs.declared.script.ScriptForm.{ScriptForm}
use Rattle.lang_ast.specs.declared.script.ScriptForm.TheVariants.{Once, Repeat}
use Rattle.lang_ast.specs.declared.script.DoForm.{DoForm}
use Rattle.lang_script.specs.Scripts.{actors_of, is_among, forms_count}
use Rattle.lang_script.specs.SnapshotNames.{latest}
use Rattle.lang_script.specs.ScriptFaults.{foreign_name, fault_if, most_steps, oversized_faults, long_forms, further_actors, may_repeat, wrong_repeats, forms_wrong_repeats, TextStep, CallStep, FrameStep, text_script, FirstUses, no_uses, uses_after, unknown_name, snapshot_faults, state_faults, is_int, add_faults, call_faults, step_faults, steps_faults, script_faults, goes_before, first_fault, first_of_faults, script_refusal}
use Rattle.lang_script.specs.declared.faults.ScriptStop.{ScriptStop}
use Rattle.lang_script.specs.declared.faults.ScriptStop.TheVariants as script

AreKnown : List ScriptStop → Type 0
AreKnown [] = Unit {0}
AreKnown (f ∷ fs) = (f ≢ script.NoMemory) × AreKnown fs

known-append : (xs ys : List ScriptStop) → AreKnown xs → AreKnown ys → AreKnown (xs ++ ys)
unfolding AreKnown
known-append [] ys h k = k
known-append (x ∷ xs) ys h k = (h.0, known-append xs ys h.1 k)

known-none : AreKnown []
unfolding AreKnown
known-none = tt

known-if : (b : Bool) (f : ScriptStop) → f ≢ script.NoMemory → AreKnown (fault_if b f)
unfolding AreKnown
known-if true f h = (h, tt)
known-if false f h = tt

known-oversized : (o : Option ℕ) → AreKnown (oversized_faults o)
unfolding AreKnown
known-oversized None = tt
known-oversized (Some at) = ((λ e. absurd cc), tt)

known-long : (left : ℕ) (forms : List DoForm) → AreKnown (long_forms left forms)
known-long left [] = known-none
known-long left (d ∷ more) = known-append (fault_if (nat_lt left (forms_count d.steps)) (script.Limit d.at)) _
    (known-if _ _ (λ e. absurd cc)) (known-long (left - forms_count d.steps) more)

known-actors : (actors : List (List ℕ)) (forms : List DoForm) → AreKnown (further_actors actors forms)
known-actors actors [] = known-none
known-actors actors (d ∷ more) = known-append (fault_if (not (is_among d.actor.text actors)) (script.Limit d.at)) _
    (known-if _ _ (λ e. absurd cc)) (known-actors actors more)

known-repeats : (steps : List ScriptForm) → AreKnown (wrong_repeats steps)
known-repeats [] = known-none
known-repeats (Once s ∷ more) = known-repeats more
known-repeats (Repeat at times steps ∷ more) = known-append (fault_if (not (may_repeat times)) (script.Limit at)) _
    (known-if _ _ (λ e. absurd cc)) (known-repeats more)

known-all-repeats : (forms : List DoForm) → AreKnown (forms_wrong_repeats forms)
known-all-repeats [] = known-none
known-all-repeats (d ∷ more) = known-append (wrong_repeats d.steps) _ (known-repeats d.steps) (known-all-repeats more)

-- The name of a snapshot is unknown, or with threads another actor's.
known-name : (at : ℕ) (o : Option ℕ) → AreKnown (unknown_name at o)
unfolding AreKnown
known-name at None = ((λ e. absurd cc), tt)
known-name at (Some taker) = tt

known-foreign : (at actor : ℕ) (o : Option ℕ) → AreKnown (foreign_name at actor o)
known-foreign at actor None = known-none
known-foreign at actor (Some taker) = known-if (not (taker == actor)) (script.Actor at) (λ e. absurd cc)

known-either : (threads : Bool) (fs : List ScriptStop) → AreKnown fs → AreKnown (cond threads fs [])
known-either true fs h = h
known-either false fs h = known-none

known-snapshot : (threads : Bool) (u : FirstUses) (actor at : ℕ) (s : SnapshotRef)
    → AreKnown (snapshot_faults threads u actor at s)
known-snapshot threads u actor at Global = known-none
known-snapshot threads u actor at (Named name) =
    let taker = latest u.takers name.text in
    known-append (unknown_name at taker) _ (known-name at taker)
    (known-either threads (foreign_name at actor taker) (known-foreign at actor taker))

known-state : (states : List State) (at x : ℕ) → AreKnown (state_faults states at x)
known-state states at x = known-if (not (nat_lt x (length states))) (script.Unknown at) (λ e. absurd cc)

known-add : (at : ℕ) (o : Option State) → AreKnown (add_faults at o)
known-add at None = known-none
known-add at (Some s) = known-if (not (is_int s.ty)) (script.Type at) (λ e. absurd cc)

module _ (threads : Bool) (states : List State) where
  known-call : (u : FirstUses) (actor : ℕ) (c : CallForm) → AreKnown (call_faults threads states u actor c)
  known-call u actor (Take at name kind parent) =
      let taker = latest u.takers name.text in
      known-append (snapshot_faults threads u actor at parent) _ (known-snapshot threads u actor at parent)
      (known-either threads (foreign_name at actor taker) (known-foreign at actor taker))
  known-call u actor (Read at s state x) = known-append (snapshot_faults threads u actor at s) _
      (known-snapshot threads u actor at s) (known-state states at x)
  known-call u actor (Write at s state x value) = known-append (snapshot_faults threads u actor at s) _
      (known-snapshot threads u actor at s) (known-state states at x)
  known-call u actor (Add at s state x amount) = known-append (snapshot_faults threads u actor at s) _
      (known-snapshot threads u actor at s)
      (known-append (state_faults states at x) _ (known-state states at x) (known-add at (slice_get states x)))
  known-call u actor (Apply at s) = known-snapshot threads u actor at s
  known-call u actor (Dispose at s) = known-snapshot threads u actor at s

  known-step : (u : FirstUses) (s : TextStep) → AreKnown (step_faults threads states u s)
  known-step u (CallStep actor c) = known-call u actor c
  known-step u (FrameStep actor at) =
      known-either threads (foreign_name at actor u.framer) (known-foreign at actor u.framer)

  known-steps : (u : FirstUses) (ss : List TextStep) → AreKnown (steps_faults threads states u ss)
  known-steps u [] = known-none
  known-steps u (s ∷ more) =
      known-append (step_faults threads states u s) _ (known-step u s) (known-steps (uses_after u s) more)

known-first : (g f : ScriptStop) → g ≢ script.NoMemory → f ≢ script.NoMemory
    → first_fault (Some g) f ≢ Some script.NoMemory
unfolding first_fault
known-first g f h k = by (goes_before f g)
  where
    by : (b : Bool) → cond b (Some f) (Some g) ≢ Some script.NoMemory
    by true e = k cc
    by false e = h cc

known-all : (o : Option ScriptStop) (fs : List ScriptStop) → o ≢ Some script.NoMemory → AreKnown fs
    → first_of_faults o fs ≢ Some script.NoMemory
unfolding AreKnown first_fault
known-all o [] h k = h
known-all o (f ∷ fs) h k = known-all (first_fault o f) fs (one o h) k.1
  where
    one : (p : Option ScriptStop) → p ≢ Some script.NoMemory → first_fault p f ≢ Some script.NoMemory
    one None i e = k.0 cc
    one (Some g) i e = known-first g f (λ is. i (ap (λ x. Some x) is)) k.0 e

known-faults : (threads : Bool) (states : List State) (beyond : Option ℕ) (forms : List DoForm)
    → AreKnown (script_faults threads states beyond forms)
known-faults threads states beyond forms =
    known-append (oversized_faults beyond) _ (known-oversized beyond) (
    known-append (long_forms most_steps forms) _ (known-long most_steps forms) (
    known-append (further_actors (actors_of forms) forms) _ (known-actors (actors_of forms) forms) (
    known-append (forms_wrong_repeats forms) _ (known-all-repeats forms)
    (known-steps threads states no_uses (text_script (actors_of forms) forms)))))

pub known_refusal : (threads : Bool) (states : List State) (beyond : Option ℕ) (forms : List DoForm)
    → script_refusal threads states beyond forms ≢ Some script.NoMemory
known_refusal threads states beyond forms = known-all None (script_faults threads states beyond forms) (λ e. absurd cc)
    (known-faults threads states beyond forms)
