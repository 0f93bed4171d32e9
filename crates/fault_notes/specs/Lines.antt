-- Trusted: lines and columns of a source text.
use Rattle.std.specs.Prelude.{ℕ, suc, ◌==◌, ◌&&◌, nat_le, Bool, List, [], ◌∷◌, if◌then◌else◌}

-- The bytes that continue a character of UTF-8, which are 128 to 191.
abbrev pub is_continuation : ℕ → Bool
is_continuation b = nat_le 128 b && nat_le b 191

abbrev pub next_line : ℕ → ℕ → ℕ
next_line line b = if b == 10 then suc line else line

-- A character is one column, and a line break ends the line.
abbrev pub next_column : ℕ → ℕ → ℕ
next_column column b = if b == 10 then 1 else if is_continuation b then column else suc column

-- The line after these bytes, which begin in the line `line`.
abbrev pub line_after : ℕ → List ℕ → ℕ
line_after line [] = line
line_after line (b ∷ bs) = line_after (next_line line b) bs

-- The column after these bytes, which begin in the column `column`.
abbrev pub column_after : ℕ → List ℕ → ℕ
column_after column [] = column
column_after column (b ∷ bs) = column_after (next_column column b) bs
