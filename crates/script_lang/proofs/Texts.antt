-- Lists that grow at their end.
use Rattle.std.proofs.Common.{◌≡◌, ℕ, List, [], ◌∷◌, ◌++◌, ◌+◌, ◌<◌, ap, ◌∙◌, append_assoc, append-nil, OnOk, Ok, Err}
use Rattle.std.proofs.lemmas.Fmt.{decimal_digit}
use Rattle.std.specs.Fmt.{decimal}
use Rattle.std.specs.declared.result.Result.{Result}

pub ruleset joins = (append_assoc, append-nil)

-- Three appended pieces, the last of which may have failed.
pub three_pieces : {T E : Type 0} (r : Result T E) (t first second third a b c : List ℕ) → first ≡ t ++ a
    → second ≡ first ++ b → OnOk r (third ≡ second ++ c) → OnOk r (third ≡ t ++ (a ++ (b ++ c)))
three_pieces (Ok x) t first second third a b c one two three =
    three ∙ ap (λ l. l ++ c) (two ∙ ap (λ l. l ++ b) one) ∙ append_assoc (t ++ a) b c ∙ append_assoc t a (b ++ c)
three_pieces (Err e) t first second third a b c one two three = tt

-- A number below 10 is one digit.
pub one_digit : (n : ℕ) → n < 10 → decimal n ≡ (48 + n) ∷ []
one_digit n low = decimal_digit n low
