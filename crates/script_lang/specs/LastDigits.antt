-- Internal: the last digits of a number.
use Rattle.std.specs.Prelude.{ℕ, ◌+◌, ◌/◌, ◌%◌, List, [], ◌∷◌}

-- The last two decimal digits of a number, with a leading zero below 10.
abbrev pub last_two_digits : ℕ → List ℕ
last_two_digits n = (48 + n / 10 % 10) ∷ (48 + n % 10) ∷ []
