-- Removing a scope from a list, item by item.
use Rattle.std.proofs.Common.{◌≡◌, ◌≤◌, ◌<◌, ◌==◌, ℕ, zero, suc, ◌+◌, not, Bool, true, false, List, [], ◌∷◌, length, get_or, if◌then◌else◌, refl, ap, sym, ◌∙◌, subst, arith, eq-eqb}
use Rattle.std.proofs.lemmas.Bool.{eqb-true}
use Rattle.std.specs.List.{remove}
use Rattle.read_links.specs.LinkLists.{scopes_without}

-- Removing an occurrence of a scope does not change the list without this scope.
pub removed_scope : (s : ℕ) (xs : List ℕ) (k d : ℕ) → k < length xs → (get_or xs k d == s) ≡ true
    → scopes_without s (remove xs k) ≡ scopes_without s xs
removed_scope s [] k d lt e = absurd (omega (arith, lt))
removed_scope s (x ∷ xs) zero d lt e = sym (ap (λ b. if not b then x ∷ scopes_without s xs else scopes_without s xs) e)
removed_scope s (x ∷ xs) (suc k) d lt e =
    ap (λ l. if not (x == s) then x ∷ l else l) (removed_scope s xs k d (omega (arith, lt)) e)

-- The first `k` scopes do not have the scope.
abbrev pub FirstAreOthers : ℕ → ℕ → List ℕ → Type 0
FirstAreOthers s zero xs = Unit
FirstAreOthers s (suc k) [] = Unit
FirstAreOthers s (suc k) (x ∷ xs) = ((x == s) ≡ false) × FirstAreOthers s k xs

pub next_is_other : (s : ℕ) (xs : List ℕ) (k d : ℕ) → k < length xs → (get_or xs k d == s) ≡ false
    → FirstAreOthers s k xs → FirstAreOthers s (k + 1) xs
next_is_other s xs k d lt e h = let one : suc k ≡ k + 1 = omega arith in
    subst (λ n. FirstAreOthers s n xs) one (by s xs k lt e h)
  where
    by : (s : ℕ) (xs : List ℕ) (k : ℕ) → k < length xs → (get_or xs k d == s) ≡ false → FirstAreOthers s k xs
        → FirstAreOthers s (suc k) xs
    by s [] k lt e h = tt
    by s (x ∷ xs) zero lt e h = (e, tt)
    by s (x ∷ xs) (suc k) lt e h = (h.0, by s xs k (omega (arith, lt)) e h.1)

pub others_stay : (s : ℕ) (xs : List ℕ) (k : ℕ) → k < length xs → FirstAreOthers s k xs
    → FirstAreOthers s k (remove xs k)
others_stay s [] k lt h = absurd (omega (arith, lt))
others_stay s (x ∷ xs) zero lt h = tt
others_stay s (x ∷ xs) (suc k) lt h = (h.0, others_stay s xs k (omega (arith, lt)) h.1)

pub all_are_others : (s : ℕ) (xs : List ℕ) (k : ℕ) → length xs ≤ k → FirstAreOthers s k xs → xs ≡ scopes_without s xs
all_are_others s [] k le h = refl
all_are_others s (x ∷ xs) zero le h = absurd (omega (arith, le))
all_are_others s (x ∷ xs) (suc k) le h =
    ap (λ l. x ∷ l) (all_are_others s xs k (omega (arith, le)) h.1)
    ∙ sym (ap (λ b. if not b then x ∷ scopes_without s xs else scopes_without s xs) h.0)

pub is_scope : (s x y : ℕ) → x ≡ y → x ≡ s → (y == s) ≡ true
is_scope s x y e is = eq-eqb y s (sym e ∙ is)

pub is_other : (s x y : ℕ) → x ≡ y → (x ≡ s → ⊥) → (y == s) ≡ false
is_other s x y e not_it = by (y == s) (λ same. not_it (e ∙ eqb-true y s same))
  where
    by : (b : Bool) → (b ≡ true → ⊥) → b ≡ false
    by true h = absurd (h refl)
    by false h = refl
