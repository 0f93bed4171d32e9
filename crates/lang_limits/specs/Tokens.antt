-- Trusted: names, numbers, strings and lists of numbers that exceed their limits.
use Rattle.std.specs.Prelude.{ℕ, suc, ◌^◌, ◌==◌, ◌&&◌, ◌||◌, not, nat_lt, List, [], ◌∷◌, ◌++◌, length, Bool, false, codes, ℤ, pos, negsuc, if◌then◌else◌}
use Rattle.std.specs.List.{list_all}
use Rattle.std.specs.Char.{is_ascii_digit}
use Rattle.std.specs.Str.{bytes_eq}
use Rattle.std.specs.Str.Parse.{signed_digits_value}
use Rattle.sexp_text.specs.Forest.{Forest, empty, atom, text, list}
use Rattle.rt_values.specs.Limits.{most_bytes, most_items}
use Rattle.lang_ast.specs.Sizes.{offset_if, most_name_bytes}

-- Whether a number fits into 64 bits with a sign.
abbrev pub fits : ℤ → Bool
fits (pos n) = nat_lt n (2 ^ 63)
fits (negsuc n) = nat_lt n (2 ^ 63)

-- Digits, the first of which is not 0.
abbrev pub is_counting : List ℕ → Bool
is_counting [] = false
is_counting (b ∷ bs) = is_ascii_digit b && not (b == 48) && list_all is_ascii_digit bs

-- A number of the notation: 0, or digits that do not begin with 0, with or without a `-` before them.
abbrev pub is_int : List ℕ → Bool
is_int [] = false
is_int (b ∷ bs) = if b == 45 then is_counting bs else bytes_eq (b ∷ bs) (codes "0") || is_counting (b ∷ bs)

-- A number that does not fit into 64 bits.
abbrev pub is_oversized_int : List ℕ → Bool
is_oversized_int a = is_int a && not (fits (signed_digits_value 10 a))

-- A name that is too long, or a number beyond 64 bits. No keyword is so long.
abbrev pub is_oversized_atom : List ℕ → Bool
is_oversized_atom a = nat_lt most_name_bytes (length a) || is_oversized_int a

-- A string that is too long.
abbrev pub is_oversized_string : List ℕ → Bool
is_oversized_string s = nat_lt most_bytes (length s)

-- The number of trees.
abbrev pub tree_count : Forest → ℕ
tree_count empty = 0
tree_count (atom at a f) = suc (tree_count f)
tree_count (text at s f) = suc (tree_count f)
tree_count (list at i f) = suc (tree_count f)

-- `(ints ..)` with too many items.
abbrev pub is_oversized_list : Forest → Bool
is_oversized_list empty = false
is_oversized_list (atom at a f) = bytes_eq a (codes "ints") && nat_lt most_items (tree_count f)
is_oversized_list (text at s f) = false
is_oversized_list (list at i f) = false

-- The offsets of all oversized tokens.
abbrev pub oversized_offsets : Forest → List ℕ
oversized_offsets empty = []
oversized_offsets (atom at a f) = offset_if (is_oversized_atom a) at ++ oversized_offsets f
oversized_offsets (text at s f) = offset_if (is_oversized_string s) at ++ oversized_offsets f
oversized_offsets (list at i f) = offset_if (is_oversized_list i) at ++ oversized_offsets i ++ oversized_offsets f

-- `(do ..)`, a part of the script.
abbrev pub is_do : Forest → Bool
is_do empty = false
is_do (atom at a f) = bytes_eq a (codes "do")
is_do (text at s f) = false
is_do (list at i f) = false

-- Whether the first tree is a part of the script.
abbrev pub is_script : Forest → Bool
is_script empty = false
is_script (atom at a f) = false
is_script (text at s f) = false
is_script (list at i f) = is_do i

-- The trees before the script.
abbrev pub program_trees : Forest → Forest
program_trees empty = empty
program_trees (atom at a f) = atom at a (program_trees f)
program_trees (text at s f) = text at s (program_trees f)
program_trees (list at i f) = if is_do i then empty else list at i (program_trees f)

-- The trees of the script, which come after the program.
abbrev pub script_trees : Forest → Forest
script_trees empty = empty
script_trees (atom at a f) = script_trees f
script_trees (text at s f) = script_trees f
script_trees (list at i f) = if is_do i then list at i f else script_trees f

-- The offsets of the oversized tokens of the script.
abbrev pub oversized_script_offsets : Forest → List ℕ
oversized_script_offsets f = oversized_offsets (script_trees f)
