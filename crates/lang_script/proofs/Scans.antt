-- The check of names, step by step.
use Rattle.std.proofs.Common.{◌≡◌, ℕ, List, [], ◌∷◌, ◌++◌, Bool, Option, None, Ok, Err, OnOk, refl, ◌∙◌, sym, length}
use Rattle.std.specs.declared.result.Result.{Result}
use Rattle.lang_ast.specs.declared.program.State.{State}
use Rattle.lang_ast.specs.declared.script.CallForm.{CallForm}
use Rattle.lang_ast.specs.declared.script.CallForm.TheVariants.{Take, Read, Write, Add, Apply, Dispose}
use Rattle.lang_script.specs.declared.faults.ScriptStop.{ScriptStop}
use Rattle.lang_script.specs.ScriptFaults.{TextStep, FirstUses, uses_after_call, call_faults, step_faults, steps_faults, uses_after, first_of_faults}
use Rattle.lang_script.specs.NameScans.{Scan, scan, scans}
use Rattle.lang_script.proofs.FirstFault.{first_append}

module _ (threads : Bool) (states : List State) where
  pub scans_append : (s : Scan) (xs ys : List TextStep)
      → scans threads states s (xs ++ ys) ≡ scans threads states (scans threads states s xs) ys
  scans_append s [] ys = refl
  scans_append s (x ∷ xs) ys = scans_append (scan threads states s x) xs ys

  -- The least fault of a scan is that of the faults of its steps.
  pub scanned : (s : Scan) (ts : List TextStep)
      → (scans threads states s ts).least ≡ first_of_faults s.least (steps_faults threads states s.uses ts)
  scanned s [] = refl
  scanned s (t ∷ ts) = scanned (scan threads states s t) ts
      ∙ sym (first_append s.least (step_faults threads states s.uses t)
      (steps_faults threads states (uses_after s.uses t) ts))

-- A list of length 0 is empty.
pub empty_list : {A : Type 0} (xs : List A) → length xs ≡ 0 → xs ≡ []
empty_list [] h = refl
empty_list (x ∷ xs) h = absurd cc

-- Five facts of a call that succeeded.
pub five_ok : {T E : Type 0} (A B C D F : Type 0) (r : Result T E) → OnOk r A → OnOk r B → OnOk r C → OnOk r D
    → OnOk r F → OnOk r (A × B × C × D × F)
five_ok A B C D F (Ok x) a b c d f = (a, b, c, d, f)
five_ok A B C D F (Err e) a b c d f = tt

-- Another fact of a call that succeeded.
pub on_ok : {T E : Type 0} (A B : Type 0) (r : Result T E) → (A → B) → OnOk r A → OnOk r B
on_ok A B (Ok x) f a = f a
on_ok A B (Err e) f a = tt

-- A step without inner steps does not change the first frame.
pub call_keeps_framer : (u : FirstUses) (actor : ℕ) (c : CallForm) → (uses_after_call u actor c).framer ≡ u.framer
call_keeps_framer u actor (Take at name kind parent) = refl
call_keeps_framer u actor (Read at snapshot state x) = refl
call_keeps_framer u actor (Write at snapshot state x value) = refl
call_keeps_framer u actor (Add at snapshot state x amount) = refl
call_keeps_framer u actor (Apply at snapshot) = refl
call_keeps_framer u actor (Dispose at snapshot) = refl

-- The least fault after a step, by the parts of the check.
pub least_after : (threads threads' : Bool) (states states' : List State) (least least' : Option ScriptStop)
    (u : FirstUses) (actor : ℕ) (c : CallForm) →
    threads' ≡ threads → states' ≡ states → least' ≡ least →
    first_of_faults least' (call_faults threads' states' u actor c)
    ≡ first_of_faults least (call_faults threads states u actor c)
least_after threads threads' states states' least least' u actor c e f g = rw e (rw f (rw g refl))

-- The fault that goes first, of five lists in order.
pub five_lists : (a b c d e : List ScriptStop) →
    first_of_faults (first_of_faults (first_of_faults (first_of_faults (first_of_faults None a) b) c) d) e
    ≡ first_of_faults None (a ++ (b ++ (c ++ (d ++ e))))
five_lists a b c d e =
    sym (first_append None a (b ++ (c ++ (d ++ e))) ∙ first_append (first_of_faults None a) b (c ++ (d ++ e))
    ∙ first_append (first_of_faults (first_of_faults None a) b) c (d ++ e)
    ∙ first_append (first_of_faults (first_of_faults (first_of_faults None a) b) c) d e)
