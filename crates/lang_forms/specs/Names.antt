-- Trusted: names, strings and lists of numbers, and the numbers of names.
use Rattle.std.specs.Prelude.{ℕ, suc, ◌&&◌, ◌==◌, ◌||◌, not, nat_le, List, [], ◌∷◌, length, take, slice_index, Bool, true, codes, ℤ, if◌then◌else◌}
use Rattle.std.specs.List.{list_all}
use Rattle.std.specs.Str.{bytes_eq, is_utf8}
use Rattle.rt_values.specs.Limits.{most_bytes, most_items}
use Rattle.lang_ast.specs.Sizes.{most_forms}
use Rattle.lang_limits.specs.Tokens.{fits}

abbrev pub is_letter : ℕ → Bool
is_letter b = (nat_le 97 b && nat_le b 122) || (nat_le 65 b && nat_le b 90)

abbrev pub is_name_byte : ℕ → Bool
is_name_byte b = is_letter b || (nat_le 48 b && nat_le b 57) || b == 95

-- The keywords that may not be names.
abbrev pub is_kept_word : List ℕ → Bool
is_kept_word a = bytes_eq a (codes "global") || bytes_eq a (codes "true") || bytes_eq a (codes "false")

-- A name: letters, digits and `_`, with a letter first, and none of the three keywords.
abbrev pub is_name : List ℕ → Bool
is_name a = is_letter (slice_index a 0) && list_all is_name_byte a && not (is_kept_word a)

-- Numbers that fit into 64 bits with a sign.
abbrev pub all_fit : List ℤ → Bool
all_fit [] = true
all_fit (z ∷ zs) = fits z && all_fit zs

-- A string: UTF-8, and not too many bytes.
abbrev pub is_string : List ℕ → Bool
is_string cs = is_utf8 cs && nat_le (length cs) most_bytes

-- As many numbers as a list may have.
abbrev pub is_list_long : ℕ → Bool
is_list_long n = nat_le n most_items

-- The index of the first of these names that is `n`, or the number of names if there is none.
abbrev pub number_in : List ℕ → List (List ℕ) → ℕ
number_in n [] = 0
number_in n (m ∷ ms) = if bytes_eq m n then 0 else suc (number_in n ms)

-- The number of a name, which is searched among the first 256: a program may have as many.
abbrev pub number_of_name : List ℕ → List (List ℕ) → ℕ
number_of_name n ms = number_in n (take most_forms ms)
