-- Trusted: how the list of objects that a view was asked for grows.
use Rattle.std.specs.Prelude.{ℕ, List, ◌≡◌, ◌++◌}

-- `Extends old new`: the list `new` begins with `old`.
pub record Extends (old new : List ℕ) : Type 0 where
  pub more : List ℕ
  pub is : new ≡ old ++ more

-- `Grew old new all`: what was added to `old` and a remaining part are together `all`.
pub record Grew (old new all : List ℕ) : Type 0 where
  pub rest : List ℕ
  pub is : new ++ rest ≡ old ++ all
