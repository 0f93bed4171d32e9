-- The parts of steps that follow each other.
use Rattle.std.proofs.Common.{◌≡◌, ℕ, zero, suc, ◌<◌, ◌-◌, ◌==◌, List, [], ◌∷◌, ◌++◌, Bool, true, false, cond, refl, sym, ap, ◌∙◌, arith, append_assoc, append-nil, eq-eqb}
use Rattle.lang_ast.specs.declared.script.DoForm.{DoForm}
use Rattle.lang_ast.specs.declared.script.StepForm.{StepForm}
use Rattle.lang_ast.specs.declared.script.ScriptForm.{ScriptForm}
use Rattle.lang_ast.specs.declared.script.ScriptForm.TheVariants.{Once, Repeat}
use Rattle.lang_script.specs.Scripts.{index_of, repeated_steps, times_of, written_out}
use Rattle.lang_script.specs.StepCalls.{Part, of_actor, step_parts, steps_parts}
use Rattle.play_laws.specs.Woven.{actor_parts}
use Rattle.play_steps.specs.PartLists.{parts_of}

-- The parts of two lists of an actor.
pub parts_append : (a : ℕ) (ps qs : List Part) → parts_of a (ps ++ qs) ≡ parts_of a ps ++ parts_of a qs
parts_append a [] qs = refl
parts_append a (p ∷ ps) qs = ap (λ l. of_actor a p ∷ l) (parts_append a ps qs)

pub steps_append : (xs ys : List StepForm) → steps_parts (xs ++ ys) ≡ steps_parts xs ++ steps_parts ys
steps_append [] ys = refl
steps_append (x ∷ xs) ys = ap (λ l. step_parts x ++ l) (steps_append xs ys)
    ∙ sym (append_assoc (step_parts x) (steps_parts xs) (steps_parts ys))

-- The parts of two lists of steps of an actor.
steps_on : (a : ℕ) (xs ys : List StepForm) →
    parts_of a (steps_parts (xs ++ ys)) ≡ parts_of a (steps_parts xs) ++ parts_of a (steps_parts ys)
steps_on a xs ys = ap (parts_of a) (steps_append xs ys) ∙ parts_append a (steps_parts xs) (steps_parts ys)

-- The first form of an actor, then the others.
pub form_first : (f : ScriptForm) (more : List ScriptForm)
    → written_out (f ∷ more) ≡ written_out (f ∷ []) ++ written_out more
form_first (Once s) more = refl
form_first (Repeat at times steps) more =
    sym (append_assoc (repeated_steps (times_of times) steps) [] (written_out more))

pub form_on : (a : ℕ) (f : ScriptForm) (more : List ScriptForm) →
    parts_of a (steps_parts (written_out (f ∷ more)))
    ≡ parts_of a (steps_parts (written_out (f ∷ []))) ++ parts_of a (steps_parts (written_out more))
form_on a f more = ap (λ l. parts_of a (steps_parts l)) (form_first f more)
    ∙ steps_on a (written_out (f ∷ [])) (written_out more)

-- The steps of a repeat that is made once more.
pub repeated_first : (n : ℕ) (steps : List StepForm) → 0 < n
    → repeated_steps n steps ≡ steps ++ repeated_steps (n - 1) steps
repeated_first zero steps some = absurd (omega (arith, some))
repeated_first (suc n) steps some =
    let e : suc n - 1 ≡ n = omega arith in ap (λ k. steps ++ repeated_steps k steps) (sym e)

pub repeat_on : (a n : ℕ) (steps : List StepForm) → 0 < n →
    parts_of a (steps_parts (repeated_steps n steps))
    ≡ parts_of a (steps_parts steps) ++ parts_of a (steps_parts (repeated_steps (n - 1) steps))
repeat_on a n steps some = ap (λ l. parts_of a (steps_parts l)) (repeated_first n steps some)
    ∙ steps_on a steps (repeated_steps (n - 1) steps)

-- The parts of a `do` form, and then those of the others.
pub actor_parts_first : (a : ℕ) (actors : List (List ℕ)) (d : DoForm) (more : List DoForm)
    → actor_parts a actors (d ∷ more) ≡ actor_parts a actors (d ∷ []) ++ actor_parts a actors more
actor_parts_first a actors d more = by (index_of d.actor.text actors == a) where
  by : (b : Bool) →
      cond b (parts_of a (steps_parts (written_out d.steps)) ++ actor_parts a actors more) (actor_parts a actors more)
      ≡ cond b (parts_of a (steps_parts (written_out d.steps)) ++ []) [] ++ actor_parts a actors more
  by true = ap (λ l. l ++ actor_parts a actors more) (sym (append-nil (parts_of a (steps_parts (written_out d.steps)))))
  by false = refl

-- The parts of a `do` form of the actor.
pub form_mine : (a : ℕ) (actors : List (List ℕ)) (d : DoForm) → index_of d.actor.text actors ≡ a
    → actor_parts a actors (d ∷ []) ≡ parts_of a (steps_parts (written_out d.steps))
form_mine a actors d is =
    ap (λ b. cond b (parts_of a (steps_parts (written_out d.steps)) ++ []) [])
    (eq-eqb (index_of d.actor.text actors) a is) ∙ append-nil (parts_of a (steps_parts (written_out d.steps)))
