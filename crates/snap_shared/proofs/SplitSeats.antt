-- Seats are split off a seat that has all callers.
use Rattle.std.proofs.Common.{◌≡◌, ℕ, zero, suc, ◌+◌, List, [], ◌∷◌, ◌++◌, length, refl, ap, sym, subst, ◌∙◌, arith, map, length-append}
use Rattle.std.proofs.lemmas.List.{length-map}
use Rattle.std.specs.Prelude.{Option}
use Rattle.atomic_table.specs.Table.{Me}
use Rattle.snap_api.specs.declared.data.Entry.{Entry}
use Rattle.snap_shared.specs.declared.rule.SeatState.{SeatState}
use Rattle.snap_shared.specs.SharedCalls.{numbers_below}
use Rattle.snap_shared.specs.SeatSteps.{state_with_callers}
use Rattle.snap_shared.specs.Seats.{IsAtRest}
use Rattle.snap_shared.specs.TurnRule.{split_left, split_right}

module _ {W : Type 0} (opening : W) where
  abbrev M : Type 0
  M = Me (Option W) (SeatState W Entry)

  -- The seat of the next caller is new.
  pub cut_rests : (k n : ℕ) (m : M) (v : SeatState W Entry) → v ≡ state_with_callers opening k (suc n)
      → m ≡ (split_right v, []) → IsAtRest opening k m × (m.0.seen ≡ [])
  cut_rests k n m v is cut =
      let now : m ≡ (split_right (state_with_callers opening k (suc n)), []) = cut
      ∙ ap (λ (x : SeatState W Entry). (split_right x, [])) is in
      subst (λ (x : M). IsAtRest opening k x × (x.0.seen ≡ [])) (sym now) ((refl, refl, refl, refl), refl)

  pub cut_rest : (k n : ℕ) (m : M) (v : SeatState W Entry) (c : _) → v ≡ state_with_callers opening k (suc n) → c ≡ []
      → m ≡ (split_left v, c) → m ≡ (state_with_callers opening (k + 1) n, [])
  cut_rest k n m v c is none cut =
      cut ∙ (λ i. (split_left (is i), none i)) ∙ ap (λ (j : ℕ). (state_with_callers opening j n, [])) (one k) where
        one : (a : ℕ) → suc a ≡ a + 1
        one a = omega arith

pub map-snoc : {A B : Type 0} (f : A → B) (xs : List A) (x : A) → map f (xs ++ x ∷ []) ≡ map f xs ++ f x ∷ []
map-snoc f [] x = refl
map-snoc f (y ∷ ys) x = ap (λ l. f y ∷ l) (map-snoc f ys x)

pub length_numbers : (n : ℕ) → length (numbers_below n) ≡ n
length_numbers zero = refl
length_numbers (suc n) = omega (arith, length-append (numbers_below n) (n ∷ []), length_numbers n)

-- A list of seats with the numbers below n has n seats.
pub numbers_length : {A : Type 0} (f : A → ℕ) (xs : List A) (n : ℕ) → map f xs ≡ numbers_below n → length xs ≡ n
numbers_length f xs n is = sym (length-map xs f) ∙ ap length is ∙ length_numbers n

-- The numbers of a list with one more seat.
pub split_numbers : {A : Type 0} (f : A → ℕ) (new old : List A) (x : A) (k : ℕ) → new ≡ old ++ x ∷ [] → f x ≡ k
    → map f old ≡ numbers_below k → map f new ≡ numbers_below (k + 1)
split_numbers f new old x k is number before =
    ap (map f) is ∙ map-snoc f old x ∙ (λ i. before i ++ number i ∷ []) ∙ ap numbers_below (one k) where
      one : (a : ℕ) → suc a ≡ a + 1
      one a = omega arith
