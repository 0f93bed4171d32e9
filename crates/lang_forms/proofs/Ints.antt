-- Numbers and their decimals.
use Rattle.std.proofs.Common.{◌≡◌, ◌∙◌, ℕ, suc, ◌^◌, ◌<◌, ◌==◌, List, [], ◌∷◌, length, Bool, true, false, ◌&&◌, None, Some, ℤ, pos, negsuc, neg_ℤ, refl, ap, sym, arith, ◌≤◌, nat_le, slice_index, true≢false, Option}
use Rattle.std.specs.Prelude.{FitsSigned}
use Rattle.std.specs.Int.{w64}
use Rattle.std.specs.Fmt.{signed_decimal, decimal}
use Rattle.std.specs.Str.{bytes_eq}
use Rattle.std.specs.Str.Parse.{AllDigits, digits_value, signed_digits_value}
use Rattle.std.proofs.lemmas.Bool.{and_parts, ltb-true, ne_eqb, lt-leb}
use Rattle.std.proofs.lemmas.Fmt.{decimal_is_IsNumeral}
use Rattle.std.proofs.lemmas.Option.{cond_some}
use Rattle.std.proofs.lemmas.Slice.Eq.{bytes_eq-Decides}
use Rattle.std.proofs.lemmas.Str.{IsUtf8-from_is_utf8}
use Rattle.std.proofs.lemmas.Str.Parse.{digit_from_value}
use Rattle.std.specs.Int.Signed.{mag}
use Rattle.std.proofs.lemmas.Int.{ints}
use Rattle.lang_limits.specs.Tokens.{fits}
use Rattle.lang_limits.proofs.Ints.{fits-true}
use Rattle.lang_forms.specs.Names.{is_letter, is_name}
use Rattle.lang_forms.specs.Readings.{int_of, when}

-- An atom that is not the decimals of a number is no number.
pub no_int : (a : List ℕ) → ((z : ℤ) → FitsSigned w64 z → signed_decimal z ≡ a → ⊥) → int_of a ≡ None
unfolding int_of
no_int a never =
    cases (bytes_eq (signed_decimal (signed_digits_value 10 a)) a) (fits (signed_digits_value 10 a)) refl refl
  where
    cases : (b c : Bool) → bytes_eq (signed_decimal (signed_digits_value 10 a)) a ≡ b
        → fits (signed_digits_value 10 a) ≡ c → when (b && c) (signed_digits_value 10 a) ≡ None
    cases true true e f = absurd (never _ (fits-true _ f) ((bytes_eq-Decides _ _).0 e))
    cases true false e f = refl
    cases false true e f = refl
    cases false false e f = refl

pub small : (z : ℤ) → FitsSigned w64 z → mag z < 2 ^ 63
small (pos n) f = omega (arith, ints)
small (negsuc n) f = omega (arith, ints)

-- Bytes equal themselves.
pub same_bytes : (a : List ℕ) → bytes_eq a a ≡ true
same_bytes a = (bytes_eq-Decides a a).1 refl

-- Digits have no sign before them.
value_of_digits : (ds : List ℕ) → AllDigits 10 ds → 0 < length ds → signed_digits_value 10 ds ≡ pos (digits_value 10 ds)
value_of_digits [] d some = absurd (omega arith)
value_of_digits (c ∷ cs) d some =
    let digit = digit_from_value c d.0 in
    let minus : (c == 45) ≡ false = ne_eqb c 45 (λ e. omega arith) in
    let plus : (c == 43) ≡ false = ne_eqb c 43 (λ e. omega arith) in
    rw (minus, plus)

-- The value of the decimals of a number.
value_of_decimals : (z : ℤ) → fits z ≡ true → signed_digits_value 10 (signed_decimal z) ≡ z
value_of_decimals (pos n) h =
    let lt : n < 2 ^ 63 = ltb-true n (2 ^ 63) h in
    let k = decimal_is_IsNumeral n (omega arith) in
    value_of_digits (decimal n) k.0.1 k.0.0 ∙ ap pos k.1
value_of_decimals (negsuc n) h =
    let lt : n < 2 ^ 63 = ltb-true n (2 ^ 63) h in
    ap (λ m. neg_ℤ (pos m)) (decimal_is_IsNumeral (suc n) (omega arith)).1

-- The decimals of a number that fits are parsed as it.
pub int-decimal : (z : ℤ) → fits z ≡ true → int_of (signed_decimal z) ≡ Some z
unfolding int_of
int-decimal z h = rw (value_of_decimals z h, same_bytes (signed_decimal z), h)

-- An atom that is parsed as a number is its decimals.
pub decimal-int : (a : List ℕ) (z : ℤ) → int_of a ≡ Some z → (a ≡ signed_decimal z) × (fits z ≡ true)
unfolding int_of
decimal-int a z h =
    let c = cond_some _ _ z h in
    let both = and_parts _ _ c.0 in
    (sym ((bytes_eq-Decides _ a).0 both.0) ∙ ap signed_decimal c.1, ap fits (sym c.1) ∙ both.1)

-- Bytes that pass the test for UTF-8 are UTF-8.
pub ruleset characters = (IsUtf8-from_is_utf8)

-- A digit is no letter.
pub digit_no_letter : (c : ℕ) → 48 ≤ c → c ≤ 57 → is_letter c ≡ false
digit_no_letter c low high =
    let small : nat_le 97 c ≡ false = lt-leb 97 c (omega arith) in
    let large : nat_le 65 c ≡ false = lt-leb 65 c (omega arith) in
    rw (small, large)

digits_no_letter : (ds : List ℕ) → AllDigits 10 ds → 0 < length ds → is_letter (slice_index ds 0) ≡ false
digits_no_letter [] d some = absurd (omega arith)
digits_no_letter (c ∷ cs) d some = let digit = digit_from_value c d.0 in digit_no_letter c (omega arith) (omega arith)

-- A number's decimals begin with no letter.
decimal_no_letter : (z : ℤ) → fits z ≡ true → is_letter (slice_index (signed_decimal z) 0) ≡ false
decimal_no_letter (pos n) h =
    let lt : n < 2 ^ 63 = ltb-true n (2 ^ 63) h in
    let k = decimal_is_IsNumeral n (omega arith) in
    digits_no_letter (decimal n) k.0.1 k.0.0
decimal_no_letter (negsuc n) h = refl

-- An atom that begins with a letter is no number.
pub letters_no_int : (a : List ℕ) → is_letter (slice_index a 0) ≡ true → int_of a ≡ None
letters_no_int a h = by (int_of a) refl
  where
    by : (o : Option ℤ) → int_of a ≡ o → int_of a ≡ None
    by None e = e
    by (Some z) e =
        let d = decimal-int a z e in
        absurd (true≢false (sym h ∙ ap (λ (b : List ℕ). is_letter (slice_index b 0)) d.0 ∙ decimal_no_letter z d.1))

-- A number's decimals are no name.
pub decimal_no_name : (z : ℤ) → fits z ≡ true → is_name (signed_decimal z) ≡ false
decimal_no_name z h = rw (decimal_no_letter z h)
