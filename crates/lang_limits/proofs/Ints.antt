-- Numbers in decimals.
use Rattle.std.proofs.Common.{arith, ◌≡◌, ◌≢◌, ◌∙◌, ◌<◌, ◌==◌, ◌&&◌, ◌||◌, not, ◌^◌, ℕ, suc, zero, nat_le, List, [], ◌∷◌, Bool, true, false, ℤ, pos, negsuc, refl, sym, ap, subst, true≢false, Result, Ok, Err}
use Rattle.std.specs.Prelude.{FitsSigned, codes, if◌then◌else◌}
use Rattle.std.specs.Int.{w64, IsInRange}
use Rattle.std.specs.List.{list_all}
use Rattle.std.specs.Result.{is_ok}
use Rattle.std.specs.Str.{IsAscii, IsUtf8, bytes_eq}
use Rattle.std.specs.Str.Parse.{AllDigits, IsNumeral, without_leading_sign, signed_digits_value, ParsesSigned}
use Rattle.std.proofs.lemmas.Bool.{and_parts, leb-true, ltb-true, lt-ltb, ne_eqb, eqb-true, eq-eqb, false_from_ne_true}
use Rattle.std.proofs.lemmas.Int.{ints}
use Rattle.std.proofs.lemmas.Slice.Eq.{bytes_eq-Decides}
use Rattle.std.proofs.lemmas.Str.{IsUtf8-from_ascii, digit_value_digit}
use Rattle.std.specs.Char.{is_ascii_digit}
use Rattle.lang_limits.specs.Tokens.{fits, is_counting, is_int}

pub fits-true : (z : ℤ) → fits z ≡ true → FitsSigned w64 z
fits-true (pos n) h = let lt : n < 2 ^ 63 = ltb-true n (2 ^ 63) h in omega (arith, ints)
fits-true (negsuc n) h = let lt : n < 2 ^ 63 = ltb-true n (2 ^ 63) h in omega (arith, ints)

digit_of : (b : ℕ) → is_ascii_digit b ≡ true → IsInRange 48 57 b
digit_of b h = let p = and_parts (nat_le 48 b) (nat_le b 57) h in (leb-true 48 b p.0, leb-true b 57 p.1)

digits : (bs : List ℕ) → list_all is_ascii_digit bs ≡ true → AllDigits 10 bs
digits [] h = tt
digits (b ∷ bs) h =
    let p = and_parts (is_ascii_digit b) (list_all is_ascii_digit bs) h in
    let range = digit_of b p.0 in
    (omega (arith, digit_value_digit b range, range.0, range.1), digits bs p.1)

-- Digits that do not begin with 0 are digits.
counting : (bs : List ℕ) → is_counting bs ≡ true → IsNumeral 10 bs
counting [] h = absurd (cc)
counting (b ∷ bs) h =
    let p = and_parts (is_ascii_digit b && not (b == 48)) (list_all is_ascii_digit bs) h in
    let q = and_parts (is_ascii_digit b) (not (b == 48)) p.0 in
    let range = digit_of b q.0 in
    (omega arith, (omega (arith, digit_value_digit b range, range.0, range.1), digits bs p.1))

digits_ascii : (bs : List ℕ) → list_all is_ascii_digit bs ≡ true → IsAscii bs
digits_ascii [] h i = omega arith
digits_ascii (b ∷ bs) h zero =
    let p = and_parts (is_ascii_digit b) (list_all is_ascii_digit bs) h in omega (arith, (digit_of b p.0).1)
digits_ascii (b ∷ bs) h (suc i) =
    let p = and_parts (is_ascii_digit b) (list_all is_ascii_digit bs) h in digits_ascii bs p.1 i

counting_digits : (bs : List ℕ) → is_counting bs ≡ true → list_all is_ascii_digit bs ≡ true
counting_digits [] h = refl
counting_digits (b ∷ bs) h =
    let p = and_parts (is_ascii_digit b && not (b == 48)) (list_all is_ascii_digit bs) h in
    let q = and_parts (is_ascii_digit b) (not (b == 48)) p.0 in
    rw (q.0, p.1) refl

-- A number after its sign, if it has one.
data Written : List ℕ → Type 0 where
  negative : (bs : List ℕ) → IsNumeral 10 bs → IsAscii bs → Written (45 ∷ bs)
  plain : (b : ℕ) (bs : List ℕ) → b ≢ 45 → b ≢ 43 → IsNumeral 10 (b ∷ bs) → IsAscii (b ∷ bs) → Written (b ∷ bs)

plain_one : (b : ℕ) (bs : List ℕ) → b ≢ 45 → list_all is_ascii_digit (b ∷ bs) ≡ true → Written (b ∷ bs)
plain_one b bs ne h =
    let p = and_parts (is_ascii_digit b) (list_all is_ascii_digit bs) h in
    let range = digit_of b p.0 in
    plain b bs ne (λ e. omega (arith, range.0)) (omega arith, digits (b ∷ bs) h) (digits_ascii (b ∷ bs) h)

zero_digits : (a : List ℕ) → bytes_eq a (codes "0") ≡ true → list_all is_ascii_digit a ≡ true
zero_digits a h = ap (list_all is_ascii_digit) ((bytes_eq-Decides a (codes "0")).0 h)

written : (a : List ℕ) → is_int a ≡ true → Written a
written [] h = absurd (cc)
written (b ∷ bs) h = by (b == 45) refl h
  where
    two : (c : Bool) → bytes_eq (b ∷ bs) (codes "0") ≡ c → b ≢ 45 → (c || is_counting (b ∷ bs)) ≡ true → Written (b ∷ bs)
    two true e ne h = plain_one b bs ne (zero_digits (b ∷ bs) e)
    two false e ne h = plain_one b bs ne (counting_digits (b ∷ bs) h)

    by : (m : Bool) → (b == 45) ≡ m → (if m then is_counting bs else bytes_eq (b ∷ bs) (codes "0") || is_counting (b ∷ bs)) ≡ true → Written (b ∷ bs)
    by true e h = subst (λ (x : ℕ). Written (x ∷ bs)) (sym (eqb-true b 45 e))
        (negative bs (counting bs h) (digits_ascii bs (counting_digits bs h)))
    by false e h = two (bytes_eq (b ∷ bs) (codes "0")) refl (λ is. absurd (true≢false (sym (eq-eqb b 45 is) ∙ e))) h

written_ascii : (a : List ℕ) → Written a → IsAscii a
written_ascii a (negative bs n ascii) zero = omega arith
written_ascii a (negative bs n ascii) (suc i) = ascii i
written_ascii a (plain b bs m p n ascii) i = ascii i

-- A number's bytes are characters.
pub int_utf8 : (a : List ℕ) → is_int a ≡ true → IsUtf8 a
int_utf8 a h = IsUtf8-from_ascii a (written_ascii a (written a h))

written_numeral : (a : List ℕ) → Written a → IsNumeral 10 (without_leading_sign a)
written_numeral a (negative bs n ascii) = n
written_numeral a (plain b bs m p n ascii) =
    let minus : (b == 45) ≡ false = ne_eqb b 45 m in
    let plus : (b == 43) ≡ false = ne_eqb b 43 p in
    rw (minus, plus) n

fits_from : (z : ℤ) → FitsSigned w64 z → fits z ≡ true
fits_from (pos n) f = let lt : n < 2 ^ 63 = omega (arith, ints) in lt-ltb n (2 ^ 63) lt
fits_from (negsuc n) f = let lt : n < 2 ^ 63 = omega (arith, ints) in lt-ltb n (2 ^ 63) lt

-- A number is parsed exactly if it fits.
pub parsed : {E : Type 0} (a : List ℕ) (r : Result ℤ E) → is_int a ≡ true → ParsesSigned w64 10 a r
    → is_ok r ≡ fits (signed_digits_value 10 a)
parsed a (Ok z) h p = sym (fits_from _ p.0.1)
parsed a (Err e) h p = sym (false_from_ne_true _ (λ t. p (written_numeral a (written a h), fits-true _ t)))
