-- A quotient of numbers of 64 bits, wrapped once.
use Rattle.std.proofs.Common.{◌≡◌, ◌<◌, ◌≤◌, ℕ, zero, suc, ◌^◌, ◌/◌, ℤ, pos, negsuc, false, sym, ap, ◌∙◌, arith, SFits, w64, to_z, of_z}
use Rattle.std.specs.Prelude.{int_div, neg_ℤ}
use Rattle.std.specs.Int.{cast_signed, cast_unsigned, int_wrap, int_wrapping_div}
use Rattle.std.specs.Ordering.{int_eq}
use Rattle.std.proofs.Math.Nat.{div-le_self, mod-eq_of_lt}
use Rattle.std.proofs.lemmas.Int.{to_z-of_z, int_wrap_fits}
use Rattle.std.proofs.lemmas.Bool.{false_from_ne_true}
use Rattle.std.proofs.lemmas.Bool.Decides.{Decides-int_eq}
use Rattle.rt_values.specs.Operators.{quotient}

-- A bound on the absolute value of a quotient.
abbrev Short : ℤ → Type 0
Short (pos n) = n < 2 ^ 64
Short (negsuc n) = n < 2 ^ 63

short-negative : (n : ℕ) → n ≤ 2 ^ 63 → Short (neg_ℤ (pos n))
short-negative zero h = omega arith
short-negative (suc n) h = omega (arith, h)

short-quotient : (a b : ℤ) → SFits w64 a → Short (int_div a b)
short-quotient (pos a) (pos b) f = let l = div-le_self a b in omega (arith, l, f.sfits)
short-quotient (pos a) (negsuc b) f =
    let l = div-le_self a (suc b) in short-negative (a / suc b) (omega (arith, l, f.sfits))
short-quotient (negsuc a) (pos b) f =
    let l = div-le_self (suc a) b in short-negative (suc a / b) (omega (arith, l, f.sfits))
short-quotient (negsuc a) (negsuc b) f = let l = div-le_self (suc a) (suc b) in omega (arith, l, f.sfits)

wrapped_once : (q : ℤ) → Short q → cast_signed w64 (cast_unsigned w64 q) ≡ int_wrap w64 q
unfolding int_wrap
wrapped_once (pos n) h = ap (cast_signed w64) (sym (mod-eq_of_lt h))
wrapped_once (negsuc n) h = let f : SFits w64 (negsuc n) = record { sfits = h } in
    to_z-of_z w64 (negsuc n) f ∙ sym (int_wrap_fits w64 (negsuc n) f)

not_zero : (b : ℤ) → (of_z w64 b ≡ 0 → ⊥) → int_eq b (pos 0) ≡ false
not_zero b h = false_from_ne_true _ (λ e. h (ap (of_z w64) ((Decides-int_eq b (pos 0)).0 e)))

pub divided : (a b r : ℤ) → SFits w64 a → SFits w64 b → SFits w64 r → (of_z w64 b ≡ 0 → ⊥)
    → r ≡ int_wrapping_div w64 (to_z w64 (of_z w64 a)) (to_z w64 (of_z w64 b)) → to_z w64 (of_z w64 r) ≡ quotient a b
divided a b r fa fb fr no_zero e =
    rw (not_zero b no_zero) (to_z-of_z w64 r fr ∙ e
    ∙ (λ i. int_wrapping_div w64 (to_z-of_z w64 a fa i) (to_z-of_z w64 b fb i))
    ∙ wrapped_once (int_div a b) (short-quotient a b fa))
