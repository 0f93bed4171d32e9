-- The written objects of a snapshot, after an insert of an object and after its removal.
use Rattle.std.proofs.Common.{◌≡◌, ◌≢◌, ℕ, ◌==◌, List, [], ◌∷◌, ◌++◌, Bool, true, false, subst, sym, ap, ◌∙◌, ◌||◌, inl, inr}
use Rattle.std.proofs.lemmas.Bool.Decides.{eqb_tells}
use Rattle.rt_values.specs.Maps.{contains, with_member}
use Rattle.snap_api.proofs.ValidSteps.{contains-with_member_same, contains-with_member_other}
use Rattle.snap_ids.proofs.Booleans.{or_right, or_none, same_or_other, true_or_false}
use Rattle.snap_world.specs.Noting.{IsNoted, noted_of}

pub contains-noted : (y x : ℕ) (xs : List ℕ) → contains y (with_member x xs) ≡ (contains y xs || y == x)
contains-noted y x xs = elim (eqb_tells y x) [
  | inl e ↦ ap (λ (i : ℕ). contains i (with_member x xs)) e.1 ∙ contains-with_member_same x xs
      ∙ sym (or_right (contains y xs) (y == x) e.0)
  | inr e ↦ contains-with_member_other y x xs e.1 ∙ sym (or_none (contains y xs) (y == x) e.0)
]

-- An insert of an object and its removal change nothing.
pub undone : (old noted new : List ℕ × List (List ℕ)) (name x : ℕ) (is_new : Bool) → IsNoted old noted name x is_new
    → (is_new ≡ true → (xs : List ℕ) (y : ℕ) → noted_of noted name ≡ xs ++ y ∷ []
    → noted_of new name ≡ xs) →
    (is_new ≡ false → noted_of new name ≡ noted_of noted name)
    → ((n : ℕ) → n ≢ name → noted_of new n ≡ noted_of noted n) → (n : ℕ)
    → noted_of new n ≡ noted_of old n
undone old noted new name x is_new a last kept others n = elim (same_or_other n name) [
  | inl e ↦ subst (λ (i : ℕ). noted_of new i ≡ noted_of old i) (sym e) (elim (true_or_false is_new) [
    | inl t ↦ last t (noted_of old name) x (a.added t)
    | inr t ↦ kept t ∙ a.same t
  ])
  | inr e ↦ others n e ∙ a.others n e
]
