-- Trusted: the grammar, that is which bytes spell which forest.
use Rattle.std.specs.Prelude.{◌≡◌, ℕ, ◌+◌, ◌==◌, Bool, true, false, ◌&&◌, ◌||◌, not, nat_le, List, [], ◌∷◌, ◌++◌, length}
use Rattle.std.specs.List.{list_all}
use Rattle.std.specs.Str.{IsUtf8}
use Rattle.rt_values.specs.Values.{escape_all}
use Rattle.sexp_text.specs.Forest.{Forest, empty, atom, text, list}

-- White space: blank, TAB, LF and CR.
abbrev pub is_blank : ℕ → Bool
is_blank b = b == 32 || b == 9 || b == 10 || b == 13

-- The bytes of atoms: letters, digits and + - * / % < > = ! ? _
abbrev pub is_atom_byte : ℕ → Bool
is_atom_byte b =
    (nat_le 97 b && nat_le b 122) || (nat_le 65 b && nat_le b 90) || (nat_le 48 b && nat_le b 57)
    || b == 43 || b == 45 || b == 42 || b == 47 || b == 37 || b == 60 || b == 62 || b == 61 || b == 33 || b == 63
    || b == 95

-- The bytes of strings: all from blank on, and LF.
abbrev pub is_char : ℕ → Bool
is_char c = nat_le 32 c || c == 10

-- An atom: one or more of its bytes.
abbrev pub is_name : List ℕ → Bool
is_name [] = false
is_name (b ∷ bs) = is_atom_byte b && list_all is_atom_byte bs

-- A spelling of a forest: its trees in order, with the white space and the comments between them.
pub data Spelling : Type 0 where
  nothing : Spelling
  blank : (byte : ℕ) → (rest : Spelling) → Spelling
  comment : (chars : List ℕ) → (rest : Spelling) → Spelling
  word : (name : List ℕ) → (rest : Spelling) → Spelling
  quoted : (chars : List ℕ) → (rest : Spelling) → Spelling
  parens : (inner rest : Spelling) → Spelling

-- The bytes of a spelling: a comment is from `;` to LF, a string is in quotes, a list in parentheses.
abbrev pub spelling_bytes : Spelling → List ℕ
spelling_bytes nothing = []
spelling_bytes (blank b s) = b ∷ spelling_bytes s
spelling_bytes (comment cs s) = 59 ∷ cs ++ 10 ∷ spelling_bytes s
spelling_bytes (word name s) = name ++ spelling_bytes s
spelling_bytes (quoted chars s) = 34 ∷ escape_all chars ++ 34 ∷ spelling_bytes s
spelling_bytes (parens inner s) = 40 ∷ spelling_bytes inner ++ 41 ∷ spelling_bytes s

-- Whether a spelling begins with an atom.
abbrev pub begins_with_word : Spelling → Bool
begins_with_word nothing = false
begins_with_word (blank b s) = false
begins_with_word (comment cs s) = false
begins_with_word (word name s) = true
begins_with_word (quoted chars s) = false
begins_with_word (parens inner s) = false

-- A comment has no LF except the one that ends it.
abbrev pub is_comment : List ℕ → Bool
is_comment cs = list_all (λ c. not (c == 10)) cs

-- Each part has bytes of its kind, and no atom comes directly after an atom: other tokens need no separation.
abbrev pub is_well_spelled : Spelling → Bool
is_well_spelled nothing = true
is_well_spelled (blank b s) = is_blank b && is_well_spelled s
is_well_spelled (comment cs s) = is_comment cs && is_well_spelled s
is_well_spelled (word name s) = is_name name && not (begins_with_word s) && is_well_spelled s
is_well_spelled (quoted chars s) = list_all is_char chars && is_well_spelled s
is_well_spelled (parens inner s) = is_well_spelled inner && is_well_spelled s

-- The forest of a spelling that begins at an offset. A tree's offset is that of its first byte.
abbrev pub forest_at : ℕ → Spelling → Forest
forest_at at nothing = empty
forest_at at (blank b s) = forest_at (at + 1) s
forest_at at (comment cs s) = forest_at (at + length cs + 2) s
forest_at at (word name s) = atom at name (forest_at (at + length name) s)
forest_at at (quoted chars s) = text at chars (forest_at (at + length (escape_all chars) + 2) s)
forest_at at (parens inner s) =
    list at (forest_at (at + 1) inner) (forest_at (at + length (spelling_bytes inner) + 2) s)

-- Whether the bytes are empty, or a comment that the end of the input ends.
abbrev pub is_tail : List ℕ → Bool
is_tail [] = true
is_tail (b ∷ bs) = b == 59 && is_comment bs

-- The bytes spell the forest: they are UTF-8, and the bytes of a spelling of it, perhaps with an unfinished comment
-- at the end.
pub record Spells (bytes : List ℕ) (f : Forest) : Type 0 where
  pub utf8 : IsUtf8 bytes
  pub spelling : Spelling
  pub tail : List ℕ
  pub well_spelled : is_well_spelled spelling ≡ true
  pub ends : is_tail tail ≡ true
  pub bytes_are : bytes ≡ spelling_bytes spelling ++ tail
  pub forest_is : f ≡ forest_at 0 spelling
