-- The ids of a set after one more id is set.
use Rattle.std.proofs.Common.{◌≡◌, ◌⊎◌, ℕ, List, refl, sym, ap, ◌∙◌, ◌==◌, true, inl, inr}
use Rattle.std.proofs.lemmas.Bool.Decides.{Decides-eqb}
use Rattle.rt_values.specs.Maps.{contains}
use Rattle.snap_ids.specs.IdLists.{with_id}
use Rattle.snap_ids.proofs.Booleans.{or_true, or_left, or_right}
use Rattle.snap_ids.proofs.IdLists.{contains-with_id}

pub set_keeps : (i x : ℕ) (xs ys : List ℕ) → ys ≡ with_id x xs → contains i xs ≡ true → contains i ys ≡ true
set_keeps i x xs ys is h =
    ap (λ (l : List ℕ). contains i l) is ∙ contains-with_id i x xs ∙ or_left (contains i xs) (i == x) h

pub set_has : (x : ℕ) (xs ys : List ℕ) → ys ≡ with_id x xs → contains x ys ≡ true
set_has x xs ys is = ap (λ (l : List ℕ). contains x l) is ∙ contains-with_id x x xs
    ∙ or_right (contains x xs) (x == x) ((Decides-eqb x x).1 refl)

pub set_only : (i x : ℕ) (xs ys : List ℕ) → ys ≡ with_id x xs → contains i ys ≡ true
    → (contains i xs ≡ true) ⊎ (i ≡ x)
set_only i x xs ys is h = elim (or_true (contains i xs) (i == x)
    (sym (ap (λ (l : List ℕ). contains i l) is ∙ contains-with_id i x xs) ∙ h)) [
      | inl e ↦ inl e
      | inr e ↦ inr ((Decides-eqb i x).0 e)
    ]
