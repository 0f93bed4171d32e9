-- Trusted: the forest with each oversized token clamped. It has the forms that the forest has without the limits of
-- literals.
use Rattle.std.specs.Prelude.{ℕ, zero, suc, ◌&&◌, ◌==◌, List, [], slice_index, Bool, true, false, codes, if◌then◌else◌}
use Rattle.sexp_text.specs.Forest.{Forest, empty, atom, text, list}
use Rattle.lang_limits.specs.Tokens.{is_int, is_oversized_int, is_oversized_string, is_oversized_list}

-- The number of 64 bits that is nearest to an oversized number: the least one if `-` comes first, else the greatest.
abbrev pub nearest_int : List ℕ → List ℕ
nearest_int a = if slice_index a 0 == 45 then codes "-9223372036854775808" else codes "9223372036854775807"

-- The nearest number for a number beyond 64 bits.
abbrev pub clamped_atom : List ℕ → List ℕ
clamped_atom a = if is_oversized_int a then nearest_int a else a

-- The empty string for a string that is too long.
abbrev pub clamped_string : List ℕ → List ℕ
clamped_string s = if is_oversized_string s then [] else s

-- Only numbers.
abbrev pub are_ints : Forest → Bool
are_ints empty = true
are_ints (atom at a f) = is_int a && are_ints f
are_ints (text at s f) = false
are_ints (list at i f) = false

-- The word `ints` with too many numbers and nothing else.
abbrev pub is_oversized_ints : Forest → Bool
is_oversized_ints empty = false
is_oversized_ints (atom at a f) = is_oversized_list (atom at a f) && are_ints f
is_oversized_ints (text at s f) = false
is_oversized_ints (list at i f) = false

-- The first n trees of a forest, or all of them if there are fewer.
abbrev pub first_trees : ℕ → Forest → Forest
first_trees zero f = empty
first_trees (suc n) empty = empty
first_trees (suc n) (atom at a f) = atom at a (first_trees n f)
first_trees (suc n) (text at s f) = text at s (first_trees n f)
first_trees (suc n) (list at i f) = list at i (first_trees n f)

-- `(ints INT INT)`, the word and the first two numbers, for an `ints` list of numbers with too many items. Two
-- numbers are kept, since `(ints INT)` is also a pair of a name and an expression; no other form has three trees that
-- begin with `ints`.
abbrev pub clamped_list : Forest → Forest
clamped_list f = if is_oversized_ints f then first_trees 3 f else f

abbrev pub clamped_trees : Forest → Forest
clamped_trees empty = empty
clamped_trees (atom at a f) = atom at (clamped_atom a) (clamped_trees f)
clamped_trees (text at s f) = text at (clamped_string s) (clamped_trees f)
clamped_trees (list at i f) = list at (clamped_list (clamped_trees i)) (clamped_trees f)
