-- Trusted: the layout of printed forests.
use Rattle.std.specs.Prelude.{◌≡◌, ℕ, Bool, true, false, List, [], ◌∷◌, ◌++◌}
use Rattle.std.specs.List.{list_all}
use Rattle.std.specs.Str.{IsUtf8}
use Rattle.sexp_text.specs.Forest.{Forest, empty, atom, text, list, list_nesting, without_offsets}
use Rattle.rt_values.specs.Values.{escape_all}
use Rattle.sexp_text.specs.Grammar.{is_name, is_char, Spells}

-- A blank if it is due, else no bytes.
abbrev pub separator : Bool → List ℕ
separator true = 32 ∷ []
separator false = []

-- The trees of a list, separated by one blank, with one before the first if other trees come before it.
abbrev pub inline_form : Bool → Forest → List ℕ
inline_form due empty = []
inline_form due (atom at a f) = separator due ++ a ++ inline_form true f
inline_form due (text at s f) = separator due ++ 34 ∷ escape_all s ++ 34 ∷ inline_form true f
inline_form due (list at i f) = separator due ++ 40 ∷ inline_form false i ++ 41 ∷ inline_form true f

-- The printed forest, with each tree on its own line.
abbrev pub lines : Forest → List ℕ
lines empty = []
lines (atom at a f) = a ++ 10 ∷ lines f
lines (text at s f) = 34 ∷ escape_all s ++ 34 ∷ 10 ∷ lines f
lines (list at i f) = 40 ∷ inline_form false i ++ 41 ∷ 10 ∷ lines f

-- A source text with these trees exists: atoms have at least one byte and only bytes of atoms, and strings are UTF-8
-- whose only character below blank is LF.
abbrev pub CanBeSpelled : Forest → Type 0
CanBeSpelled empty = Unit {0}
CanBeSpelled (atom at a f) = (is_name a ≡ true) × CanBeSpelled f
CanBeSpelled (text at s f) = IsUtf8 s × (list_all is_char s ≡ true) × CanBeSpelled f
CanBeSpelled (list at i f) = CanBeSpelled i × CanBeSpelled f

-- The bytes spell the forest except for its offsets.
pub record SpellsUnplaced (bytes : List ℕ) (f : Forest) : Type 0 where
  pub forest : Forest
  pub spells : Spells bytes forest
  pub same : without_offsets forest ≡ without_offsets f
  pub deep : list_nesting forest ≡ list_nesting f
