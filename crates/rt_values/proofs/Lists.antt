-- Lists of numbers that a loop builds step by step.
use Rattle.std.proofs.Common.{◌≡◌, ◌≤◌, ◌<◌, ℕ, zero, suc, ◌+◌, ◌-◌, ℤ, pos, ◌+ℤ◌, true, false, List, [], ◌∷◌, ◌++◌, length, refl, sym, ap, ◌∙◌, arith, append_assoc, length-append, SFits, w64, to_z, of_z}
use Rattle.std.proofs.Common.{take, min}
use Rattle.std.proofs.lemmas.List.{append-nil, take_min}
use Rattle.std.proofs.lemmas.Int.{ints, to_z-of_z}
use Rattle.std.proofs.Math.Seq.{take-append-add}
use Rattle.std.specs.Prelude.{int_lt}
use Rattle.rt_values.specs.Operators.{numbers_from, concatenation}

numbers_from-more : (n : ℕ) (a b : ℤ) → int_lt a b ≡ true → numbers_from (suc n) a b ≡ a ∷ numbers_from n (a +ℤ pos 1) b
unfolding numbers_from
numbers_from-more n a b less = rw less refl

numbers_from-end : (n : ℕ) (a b : ℤ) → int_lt a b ≡ false → numbers_from n a b ≡ []
unfolding numbers_from
numbers_from-end zero a b ended = refl
numbers_from-end (suc n) a b ended = rw ended refl

numbers_from-full : (n : ℕ) (a b : ℤ) → n ≡ 0 → numbers_from n a b ≡ []
unfolding numbers_from
numbers_from-full n a b full = rw full refl

next_fits : (a b : ℤ) → int_lt a b ≡ true → SFits w64 a → SFits w64 b → SFits w64 (a +ℤ pos 1)
next_fits a b less f g = grind (arith, ints)

-- A range after one more step of its loop.
pub range-step : (l m : List ℤ) (a b : ℤ) (whole : List ℤ) → SFits w64 a → SFits w64 b → length l < 4096
    → int_lt a b ≡ true → m ≡ l ++ a ∷ [] → l ++ numbers_from (4096 - length l) a b ≡ whole
    → (length m ≤ 4096) × (m ++ numbers_from (4096 - length m) (to_z w64 (of_z w64 (a +ℤ pos 1))) b ≡ whole)
range-step l m a b whole f g room less more so_far =
    let long : length m ≡ length l + 1 = ap length more ∙ length-append l (a ∷ []) in
    let left : 4096 - length l ≡ suc (4096 - length m) = omega (arith, long, room) in (
      omega (arith, long, room),
      ap (λ z. m ++ numbers_from (4096 - length m) z b) (to_z-of_z w64 (a +ℤ pos 1) (next_fits a b less f g))
          ∙ ap (λ x. x ++ numbers_from (4096 - length m) (a +ℤ pos 1) b) more
          ∙ append_assoc l (a ∷ []) (numbers_from (4096 - length m) (a +ℤ pos 1) b)
          ∙ ap (λ x. l ++ x) (sym (numbers_from-more (4096 - length m) a b less))
          ∙ ap (λ n. l ++ numbers_from n a b) (sym left) ∙ so_far,
    )

nothing_more : (l rest whole : List ℤ) → rest ≡ [] → l ++ rest ≡ whole → l ≡ whole
nothing_more l rest whole none so_far = sym (append-nil l) ∙ ap (λ x. l ++ x) (sym none) ∙ so_far

-- A range whose loop reached the end.
pub range-ended : (l : List ℤ) (n : ℕ) (a b : ℤ) (whole : List ℤ) → int_lt a b ≡ false → l ++ numbers_from n a b ≡ whole
    → l ≡ whole
range-ended l n a b whole ended so_far = nothing_more l (numbers_from n a b) whole (numbers_from-end n a b ended) so_far

-- A range whose loop stopped at the limit of a list.
pub range-full : (l : List ℤ) (a b : ℤ) (whole : List ℤ) → 4096 ≤ length l
    → l ++ numbers_from (4096 - length l) a b ≡ whole → l ≡ whole
range-full l a b whole full so_far = nothing_more l (numbers_from (4096 - length l) a b) whole
    (numbers_from-full (4096 - length l) a b (omega (arith, full))) so_far

-- The items of two lists, cut at the limit.
pub concatenation-is : (all l k : List ℤ) (len more : ℕ) → len ≡ length l → len ≤ 4096
    → more ≡ min (4096 - len) (length k) → all ≡ l ++ take more k → all ≡ concatenation l k
concatenation-is all l k len more is_len fits is_more is_all =
    let whole : length l + (4096 - len) ≡ 4096 = omega (arith, fits, is_len) in
    is_all ∙ ap (λ t. l ++ t) (ap (λ m. take m k) is_more ∙ take_min (4096 - len) k)
    ∙ sym (take-append-add l k (4096 - len)) ∙ ap (λ m. take m (l ++ k)) whole
