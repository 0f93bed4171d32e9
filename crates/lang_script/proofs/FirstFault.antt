-- The fault of a list that goes first.
use Rattle.std.proofs.Common.{◌≡◌, List, [], ◌∷◌, ◌++◌, Bool, true, false, cond, Option, Some, None, refl}
use Rattle.lang_script.specs.declared.faults.ScriptStop.{ScriptStop}
use Rattle.lang_script.specs.ScriptFaults.{goes_before, first_fault, first_of_faults}

pub first_append : (o : Option ScriptStop) (xs ys : List ScriptStop)
    → first_of_faults o (xs ++ ys) ≡ first_of_faults (first_of_faults o xs) ys
first_append o [] ys = refl
first_append o (x ∷ xs) ys = first_append (first_fault o x) xs ys

-- With an earlier fault there is one that goes first.
some_fault : (g f : ScriptStop) → (h : ScriptStop) × (first_fault (Some g) f ≡ Some h)
unfolding first_fault
some_fault g f = by (goes_before f g)
  where
    by : (b : Bool) → (h : ScriptStop) × (cond b (Some f) (Some g) ≡ Some h)
    by true = (f, refl)
    by false = (g, refl)

some_faults : (g : ScriptStop) (fs : List ScriptStop) → (h : ScriptStop) × (first_of_faults (Some g) fs ≡ Some h)
some_faults g [] = (g, refl)
some_faults g (f ∷ fs) =
    let s = some_fault g f in
    let more = some_faults s.0 fs in
    (more.0, rw (s.1) more.1)

-- If no fault goes first there is none.
pub no_fault : (fs : List ScriptStop) → first_of_faults None fs ≡ None → fs ≡ []
unfolding first_fault
no_fault [] h = refl
no_fault (f ∷ fs) h = let s = some_faults f fs in absurd cc
