-- The decimal digits of a number, two at a time.
use Rattle.std.proofs.Common.{◌≡◌, ℕ, ◌+◌, ◌/◌, ◌%◌, ◌^◌, ◌<◌, ◌≤◌, [], ◌∷◌, ◌++◌, ap, ◌∙◌, append_assoc, arith}
use Rattle.std.proofs.lemmas.Fmt.{decimal_digit, decimal_step}
use Rattle.std.specs.Fmt.{decimal}
use Rattle.script_lang.specs.LastDigits.{last_two_digits}

-- A number below 10 is its last digit.
pub only_digit : (n : ℕ) → n < 10 → decimal n ≡ (48 + n % 10) ∷ []
only_digit n low = let same : n ≡ n % 10 = omega (arith, low) in decimal_digit n low ∙ ap (λ d. (48 + d) ∷ []) same

-- A number of two digits.
pub two_digits : (n : ℕ) → 10 ≤ n → n < 100 → decimal n ≡ last_two_digits n
two_digits n more less =
    let same : n / 10 ≡ n / 10 % 10 = omega (arith, less) in
    decimal_step n more (omega (arith, less))
    ∙ ap (λ l. l ++ (48 + n % 10) ∷ []) (decimal_digit (n / 10) (omega (arith, less)))
    ∙ ap (λ d. (48 + d) ∷ (48 + n % 10) ∷ []) same

-- The last two digits of a number of more digits follow the others.
pub two_more : (n : ℕ) → 100 ≤ n → n < 2 ^ 64 → decimal n ≡ decimal (n / 100) ++ last_two_digits n
two_more n more less =
    let same : n / 10 / 10 ≡ n / 100 = omega arith in
    decimal_step n (omega (arith, more)) less
    ∙ ap (λ l. l ++ (48 + n % 10) ∷ []) (decimal_step (n / 10) (omega (arith, more)) (omega (arith, less))
    ∙ ap (λ k. decimal k ++ (48 + n / 10 % 10) ∷ []) same)
    ∙ append_assoc (decimal (n / 100)) ((48 + n / 10 % 10) ∷ []) ((48 + n % 10) ∷ [])

-- The last four digits of a number of more digits follow the others.
pub four_more : (n : ℕ) → 10000 ≤ n → n < 2 ^ 64
    → decimal n ≡ (decimal (n / 10000) ++ last_two_digits (n / 100)) ++ last_two_digits n
four_more n more less =
    let same : n / 100 / 100 ≡ n / 10000 = omega arith in
    two_more n (omega (arith, more)) less
    ∙ ap (λ l. l ++ last_two_digits n) (two_more (n / 100) (omega (arith, more)) (omega (arith, less))
    ∙ ap (λ k. decimal k ++ last_two_digits (n / 100)) same)
