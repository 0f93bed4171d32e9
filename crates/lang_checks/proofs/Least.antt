-- The fault that is reported.
use Rattle.std.proofs.Common.{arith, ◌≡◌, ◌⊎◌, inl, inr, suc, All, Contains, List, [], ◌∷◌, ◌++◌, Option, Some, Bool, true, false, refl, ap, ◌∙◌}
use Rattle.std.proofs.lemmas.Bool.Decides.{nat_tests}
use Rattle.std.proofs.lemmas.List.Elements.{All-cons, All-nil}
use Rattle.lang_checks.specs.FaultOrder.{least_fault_from, least_fault_with, before}
use Rattle.lang_checks.specs.declared.faults.ProgramFault.{ProgramFault}
use Rattle.lang_checks.specs.Laws.{NoAnswerNoFault, AnswerIsLeast}

Kept : ProgramFault → List ProgramFault → Type 0
Kept g fs = (h : ProgramFault) × (least_fault_from (Some g) fs ≡ Some h)

kept_one : (f g : ProgramFault) (fs : List ProgramFault) (b : Bool) → before f g ≡ b → Kept f fs → Kept g fs
    → (h : ProgramFault) × (least_fault_from (least_fault_with (Some g) f) fs ≡ Some h)
unfolding least_fault_with Kept
kept_one f g fs true e k l = (k.0, rw e k.1)
kept_one f g fs false e k l = (l.0, rw e l.1)

kept : (fs : List ProgramFault) (g : ProgramFault) → Kept g fs
unfolding Kept
kept [] g = (g, refl)
kept (f ∷ fs) g = kept_one f g fs (before f g) refl (kept fs f) (kept fs g)

pub no_answer : NoAnswerNoFault
unfolding least_fault_with Kept
no_answer [] h = refl
no_answer (f ∷ fs) h = let k = kept fs f in absurd (cc (k.1))

before_self : (f : ProgramFault) → before f f ≡ false
before_self f = grind (arith, nat_tests)

-- If x is before g and not before f, g is not before f.
before_down : (x g f : ProgramFault) → before x g ≡ true → before x f ≡ false → before g f ≡ false
before_down x g f h k = grind (arith, nat_tests)

before_up : (x g f : ProgramFault) → before x g ≡ false → before g f ≡ false → before x f ≡ false
before_up x g f h k = grind (arith, nat_tests)

inject : {A : Type 0} {a b : A} → Some a ≡ Some b → a ≡ b
inject h = cc

-- No fault of the list is before f.
NoneBefore : ProgramFault → List ProgramFault → Type 0
NoneBefore f fs = All (λ (g : ProgramFault). before g f ≡ false) fs

here : (g f : ProgramFault) (fs : List ProgramFault) → g ≡ f → Contains (g ∷ fs) f
here g f fs is = (0, omega arith, is)

there : (g f : ProgramFault) (fs : List ProgramFault) → Contains fs f → Contains (g ∷ fs) f
there g f fs has = (suc has.0, omega (arith, has.1), has.2)

-- The fault that is reported is a first one or one of the list, and no fault is before it.
Least : List ProgramFault → ProgramFault → ProgramFault → Type 0
Least fs g f = ((g ≡ f) ⊎ Contains fs f) × (before g f ≡ false) × NoneBefore f fs

least_step : (x g f : ProgramFault) (fs : List ProgramFault) (b : Bool) → before x g ≡ b
    → ((k : ProgramFault) → least_fault_from (Some k) fs ≡ Some f → Least fs k f)
    → least_fault_from (least_fault_with (Some g) x) fs ≡ Some f → Least (x ∷ fs) g f
unfolding least_fault_with Least NoneBefore
least_step x g f fs true e go h =
    let is : least_fault_with (Some g) x ≡ Some x = rw e refl in
    let l = go x (rw is at h) in (
      elim l.0 [ inl y ↦ inr (here x f fs y) | inr y ↦ inr (there x f fs y) ],
      before_down x g f e l.1,
      All-cons (λ (k : ProgramFault). before k f ≡ false) x fs l.1 l.2,
    )
least_step x g f fs false e go h =
    let is : least_fault_with (Some g) x ≡ Some g = rw e refl in
    let l = go g (rw is at h) in (
      elim l.0 [ inl y ↦ inl y | inr y ↦ inr (there x f fs y) ],
      l.1,
      All-cons (λ (k : ProgramFault). before k f ≡ false) x fs (before_up x g f e l.1) l.2,
    )

least_from : (fs : List ProgramFault) (g f : ProgramFault) → least_fault_from (Some g) fs ≡ Some f → Least fs g f
unfolding Least NoneBefore
least_from [] g f h =
    let is : g ≡ f = inject h in (
      inl is,
      ap (λ (x : ProgramFault). before x f) is ∙ before_self f,
      All-nil (λ (k : ProgramFault). before k f ≡ false),
    )
least_from (x ∷ fs) g f h = least_step x g f fs (before x g) refl (λ k. least_from fs k f) h

pub answer_is_least : AnswerIsLeast
unfolding least_fault_with Least NoneBefore
answer_is_least [] f h = absurd (cc)
answer_is_least (g ∷ fs) f h =
    let l = least_from fs g f h in (
      elim l.0 [ inl y ↦ here g f fs y | inr y ↦ there g f fs y ],
      All-cons (λ (k : ProgramFault). before k f ≡ false) g fs l.1 l.2,
    )

pub least_append : (o : Option ProgramFault) (xs ys : List ProgramFault)
    → least_fault_from o (xs ++ ys) ≡ least_fault_from (least_fault_from o xs) ys
least_append o [] ys = refl
least_append o (x ∷ xs) ys = least_append (least_fault_with o x) xs ys

-- The first fault of one list after another.
pub ruleset answers = (least_append)
