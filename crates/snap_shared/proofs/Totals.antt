-- Totals over the states of all seats, and counts of caller numbers.
use Rattle.std.proofs.Common.{◌≡◌, ℕ, zero, suc, ◌+◌, ◌<◌, ◌≤◌, ◌≢◌, ◌⊎◌, List, [], ◌∷◌, ◌++◌, length, set, sym, refl, ap, inl, inr, ◌∙◌, arith, cond, eq-eqb, ne_eqb, eqb, Bool, true, false, nat_lt}
use Rattle.std.proofs.lemmas.Bool.{cases_lt}
use Rattle.std.proofs.lemmas.Bool.Decides.{eqb_tells, leb_tells}
use mathlib.Core.Option.{some, some-injective, some-ne-none}
use lib.ListN.{get_elem?}
use Rattle.snap_shared.specs.declared.rule.SeatState.{SeatState}
use Rattle.snap_shared.specs.Histories.{calls_by}
use Rattle.snap_shared.specs.StepResults.{AreCallsIn}
use Rattle.snap_shared.specs.TurnRule.{total, occurrences, one_if_below, callers_from, with_calls_in, first_item, other_items}

module _ {W E : Type 0} (g : SeatState W E → ℕ) where
  pub total-set : (l : List (SeatState W E)) (j : ℕ) (v w : SeatState W E) → get_elem? l j ≡ some v
      → total g (set l j w) + g v ≡ total g l + g w
  total-set [] j v w e = absurd (some-ne-none v (sym e))
  total-set (x ∷ xs) zero v w e = omega (arith, ap g (some-injective x v e))
  total-set (x ∷ xs) (suc j) v w e = omega (arith, total-set xs j v w e)

  pub total-snoc : (l : List (SeatState W E)) (v : SeatState W E) → total g (l ++ v ∷ []) ≡ total g l + g v
  total-snoc [] v = omega arith
  total-snoc (x ∷ xs) v = omega (arith, total-snoc xs v)

  pub total_one : (l : List (SeatState W E)) (j : ℕ) (v : SeatState W E) → get_elem? l j ≡ some v → g v ≤ total g l
  total_one [] j v e = absurd (some-ne-none v (sym e))
  total_one (x ∷ xs) zero v e = omega (arith, ap g (some-injective x v e))
  total_one (x ∷ xs) (suc j) v e = omega (arith, total_one xs j v e)

  -- Two states together have at most the total.
  pub total_two : (l : List (SeatState W E)) (i j : ℕ) (u v : SeatState W E) → i ≢ j → get_elem? l i ≡ some u
      → get_elem? l j ≡ some v → g u + g v ≤ total g l
  total_two [] i j u v n eu ev = absurd (some-ne-none u (sym eu))
  total_two (x ∷ xs) zero zero u v n eu ev = absurd (n refl)
  total_two (x ∷ xs) zero (suc j) u v n eu ev = omega (arith, ap g (some-injective x u eu), total_one xs j v ev)
  total_two (x ∷ xs) (suc i) zero u v n eu ev = omega (arith, ap g (some-injective x v ev), total_one xs i u eu)
  total_two (x ∷ xs) (suc i) (suc j) u v n eu ev = omega (arith, total_two xs i j u v (λ e. n (ap suc e)) eu ev)

pub index_below : {A : Type 0} (l : List A) (j : ℕ) (v : A) → get_elem? l j ≡ some v → j < length l
index_below [] j v e = absurd (some-ne-none v (sym e))
index_below (x ∷ xs) zero v e = omega arith
index_below (x ∷ xs) (suc j) v e = omega (arith, index_below xs j v e)

pub at_append : {A : Type 0} (xs ys : List A) (i : ℕ) (a : A) → get_elem? (xs ++ ys) i ≡ some a
    → (get_elem? xs i ≡ some a) ⊎ ((j : ℕ) × (get_elem? ys j ≡ some a))
at_append [] ys i a e = inr (i, e)
at_append (x ∷ xs) ys zero a e = inl e
at_append (x ∷ xs) ys (suc i) a e = at_append xs ys i a e

module _ {E : Type 0} where
  -- 1 if the pair has number `k`, else 0.
  abbrev is_one : ℕ → ℕ × List E → ℕ
  is_one k p = cond (eqb p.0 k) 1 0

  pub occurrences-append : (k : ℕ) (xs ys : List (ℕ × List E))
      → occurrences k (xs ++ ys) ≡ occurrences k xs + occurrences k ys
  occurrences-append k [] ys = omega arith
  occurrences-append k (x ∷ xs) ys = let t : ℕ = is_one k x in let rest = occurrences-append k xs ys in
      let r : occurrences k (xs ++ ys) ≡ occurrences k xs + occurrences k ys = rest in
      sums t (occurrences k (xs ++ ys)) (occurrences k xs) (occurrences k ys) r where
        sums : (a b c d : ℕ) → b ≡ c + d → a + b ≡ (a + c) + d
        sums a b c d e = omega arith

  pub times_here : (own : List (ℕ × List E)) (i : ℕ) (p : ℕ × List E) → get_elem? own i ≡ some p
      → 0 < occurrences p.0 own
  times_here [] i p e = absurd (some-ne-none p (sym e))
  times_here (x ∷ xs) zero p e =
      let same : eqb x.0 p.0 ≡ true = eq-eqb x.0 p.0 (ap (λ (q : ℕ × List E). q.0) (some-injective x p e)) in
      let one : is_one p.0 x ≡ 1 = ap (λ b. cond b 1 0) same in
      more (is_one p.0 x) (occurrences p.0 xs) one where
        more : (a b : ℕ) → a ≡ 1 → 0 < a + b
        more a b h = omega arith
  times_here (x ∷ xs) (suc i) p e = more (is_one p.0 x) (occurrences p.0 xs) (times_here xs i p e) where
    more : (a b : ℕ) → 0 < b → 0 < a + b
    more a b h = omega arith

  pub times_first_rest : (k : ℕ) (own : List (ℕ × List E))
      → occurrences k (first_item own) + occurrences k (other_items own) ≡ occurrences k own
  times_first_rest k [] = refl
  times_first_rest k (x ∷ xs) = zeros (is_one k x) (occurrences k xs) where
    zeros : (a b : ℕ) → (a + 0) + b ≡ a + b
    zeros a b = omega arith

  pub at_first : (own : List (ℕ × List E)) (i : ℕ) (p : ℕ × List E) → get_elem? (first_item own) i ≡ some p
      → get_elem? own i ≡ some p
  at_first [] i p e = e
  at_first (x ∷ xs) zero p e = e
  at_first (x ∷ xs) (suc i) p e = absurd (some-ne-none p (sym e))

  pub at_rest : (own : List (ℕ × List E)) (i : ℕ) (p : ℕ × List E) → get_elem? (other_items own) i ≡ some p
      → get_elem? own (suc i) ≡ some p
  at_rest [] i p e = absurd (some-ne-none p (sym e))
  at_rest (x ∷ xs) i p e = e

  pub length_first_rest : (own : List (ℕ × List E)) → length (first_item own) + length (other_items own) ≡ length own
  length_first_rest [] = refl
  length_first_rest (x ∷ xs) = omega arith

  module _ (caller : E → ℕ) (log : List E) where
    pub times_renewed : (k : ℕ) (own : List (ℕ × List E))
        → occurrences k (with_calls_in caller log own) ≡ occurrences k own
    times_renewed k [] = refl
    times_renewed k (x ∷ xs) = ap (λ (n : ℕ). is_one k x + n) (times_renewed k xs)

    pub length_renewed : (own : List (ℕ × List E)) → length (with_calls_in caller log own) ≡ length own
    length_renewed [] = refl
    length_renewed (x ∷ xs) = omega (arith, length_renewed xs)

    pub renewed_own : (own : List (ℕ × List E)) → AreCallsIn caller log (with_calls_in caller log own)
    renewed_own [] i p e = absurd (some-ne-none p (sym e))
    renewed_own (x ∷ xs) zero p e =
        let is : (x.0, calls_by caller x.0 log) ≡ p = some-injective (x.0, calls_by caller x.0 log) p e in
        ap (λ (q : ℕ × List E). calls_by caller q.0 log) (sym is) ∙ ap (λ (q : ℕ × List E). q.1) is
    renewed_own (x ∷ xs) (suc i) p e = renewed_own xs i p e

-- Lists of consecutive callers.
module _ (E : Type 0) where
  pub length_from : (k n : ℕ) → length (callers_from {E = E} k n) ≡ n
  length_from k zero = refl
  length_from k (suc n) = omega (arith, length_from (suc k) n)

  pub own_from : (caller : E → ℕ) (k n : ℕ) → AreCallsIn caller [] (callers_from k n)
  own_from caller k zero i p e = absurd (some-ne-none p (sym e))
  own_from caller k (suc n) zero p e = ap (λ (q : ℕ × List E). q.1) (some-injective (k, []) p e)
  own_from caller k (suc n) (suc i) p e = own_from caller (suc k) n i p e

  plus : (x y m : ℕ) → x ≡ 0 → y ≡ m → x + y ≡ m
  plus x y m e f = omega arith

  low : (k a n : ℕ) → k < a → occurrences k (callers_from {E = E} a n) ≡ 0
  low k a zero h = refl
  low k a (suc n) h = plus (cond (eqb a k) 1 0) (occurrences k (callers_from {E = E} (suc a) n)) 0
      (ap (λ b. cond b 1 0) (ne_eqb a k (λ e. omega arith))) (low k (suc a) n (omega arith))

  distinct : (a k : ℕ) → a ≢ k → a ≤ k → suc a ≤ k
  distinct a k ne h = elim (cases_lt a k) [ inl b ↦ b | inr b ↦ absurd (ne (omega (arith, b))) ]

  one_more : (x y : ℕ) → x ≡ 1 → y ≡ 0 → x + y ≡ 1
  one_more x y e f = omega arith

  within : (k a n : ℕ) → a ≤ k → k < a + n → occurrences k (callers_from {E = E} a n) ≡ 1
  within k a zero h l = absurd (omega arith)
  within k a (suc n) h l = elim (eqb_tells a k) [
    | inl e ↦ one_more (cond (eqb a k) 1 0) (occurrences k (callers_from {E = E} (suc a) n)) (ap (λ b. cond b 1 0) e.0)
        (low k (suc a) n (omega (arith, e.1)))
    | inr e ↦ plus (cond (eqb a k) 1 0) (occurrences k (callers_from {E = E} (suc a) n)) 1 (ap (λ b. cond b 1 0) e.0)
        (within k (suc a) n (distinct a k e.1 h) (omega arith))
  ]

  high : (k a n : ℕ) → a + n ≤ k → occurrences k (callers_from {E = E} a n) ≡ 0
  high k a zero h = refl
  high k a (suc n) h = plus (cond (eqb a k) 1 0) (occurrences k (callers_from {E = E} (suc a) n)) 0
      (ap (λ b. cond b 1 0) (ne_eqb a k (λ e. omega arith))) (high k (suc a) n (omega arith))

  pub once_from : (n k : ℕ) → occurrences k (callers_from {E = E} 0 n) ≡ one_if_below k n
  once_from n k = elim (leb_tells (suc k) n) [
    | inl h ↦ within k 0 n (omega arith) (omega (arith, h.1)) ∙ ap (λ b. cond b 1 0) (sym h.0)
    | inr h ↦ high k 0 n (omega (arith, h.1)) ∙ ap (λ b. cond b 1 0) (sym h.0)
  ]

pub one_below_one : (k n : ℕ) → one_if_below k n ≤ 1
one_below_one k n = small (nat_lt k n) where
  small : (b : Bool) → cond b 1 0 ≤ 1
  small true = omega arith
  small false = omega arith

pub one_below_is : (k n : ℕ) → 0 < one_if_below k n → k < n
one_below_is k n h = elim (leb_tells (suc k) n) [
  | inl e ↦ omega (arith, e.1)
  | inr e ↦ let zero_there : one_if_below k n ≡ 0 = ap (λ b. cond b 1 0) e.0 in absurd (omega arith)
]
