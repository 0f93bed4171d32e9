-- Trusted: the operators of expressions, as total functions on numbers, truth values, texts and lists. `and`, `or`
-- and `not` are those of Bool, and `=` is `same_value`.
use Rattle.std.specs.Prelude.{ℕ, zero, suc, ◌++◌, ◌∷◌, [], nat_lt, Bool, false, List, length, take, slice_index_or, ℤ, pos, negsuc, ◌+ℤ◌, ◌-ℤ◌, ◌*ℤ◌, int_lt, int_div, int_rem, if◌then◌else◌}
use Rattle.std.specs.Int.{int_wrap, w64}
use Rattle.std.specs.Ordering.{int_eq}
use Rattle.std.specs.Str.{is_utf8}
use Rattle.std.specs.Fmt.{signed_decimal}
use Rattle.rt_values.specs.declared.value.Value.{Value}
use Rattle.rt_values.specs.declared.value.Value.TheVariants as value
use Rattle.rt_values.specs.Limits.{most_bytes, most_items}
use Rattle.rt_values.specs.Values.{truth_text}

-- An operand of another type than the operator needs counts as 0, false, the empty text or the empty list.

abbrev pub number_of : Value → ℤ
number_of (value.Int z) = z
number_of (value.Bool b) = pos 0
number_of (value.Text t) = pos 0
number_of (value.Ints l) = pos 0

abbrev pub is_true : Value → Bool
is_true (value.Int z) = false
is_true (value.Bool b) = b
is_true (value.Text t) = false
is_true (value.Ints l) = false

abbrev pub text_of : Value → List ℕ
text_of (value.Int z) = []
text_of (value.Bool b) = []
text_of (value.Text t) = t
text_of (value.Ints l) = []

abbrev pub items_of : Value → List ℤ
items_of (value.Int z) = []
items_of (value.Bool b) = []
items_of (value.Text t) = []
items_of (value.Ints l) = l

-- Numbers: sums, differences and products wrap to 64 bits.

abbrev pub sum_of : ℤ → ℤ → ℤ
sum_of a b = int_wrap w64 (a +ℤ b)

abbrev pub difference : ℤ → ℤ → ℤ
difference a b = int_wrap w64 (a -ℤ b)

abbrev pub product : ℤ → ℤ → ℤ
product a b = int_wrap w64 (a *ℤ b)

-- The quotient, rounded towards 0, or 0 for the divisor 0. The least number divided by -1 wraps to the least number.
abbrev pub quotient : ℤ → ℤ → ℤ
quotient a b = if int_eq b (pos 0) then pos 0 else int_wrap w64 (int_div a b)

-- The remainder with the sign of the dividend, or 0 for the divisor 0.
abbrev pub remainder : ℤ → ℤ → ℤ
remainder a b = if int_eq b (pos 0) then pos 0 else int_rem a b

-- Texts.

-- The longest prefix of whole characters with at most n bytes.
unfoldable pub front : ℕ → List ℕ → List ℕ
front zero t = []
front (suc n) t = if is_utf8 (take (suc n) t) then take (suc n) t else front n t

-- Two texts in sequence, cut to as many whole characters as a text can have.
abbrev pub joined_text : List ℕ → List ℕ → List ℕ
joined_text s t = front most_bytes (s ++ t)

-- The text of a number or a truth value. A text or a list gives the empty text.
abbrev pub plain_text : Value → List ℕ
plain_text (value.Int z) = signed_decimal z
plain_text (value.Bool b) = truth_text b
plain_text (value.Text t) = []
plain_text (value.Ints l) = []

-- Lists.

-- The numbers a, a + 1, .. below b, at most n of them.
unfoldable pub numbers_from : ℕ → ℤ → ℤ → List ℤ
numbers_from zero a b = []
numbers_from (suc n) a b = if int_lt a b then a ∷ numbers_from n (a +ℤ pos 1) b else []

-- The numbers a, a + 1, .. below b, as many as a list can have.
abbrev pub range : ℤ → ℤ → List ℤ
range a b = numbers_from most_items a b

-- The list with an item appended, or the list itself if it is full.
abbrev pub list_with_item : List ℤ → ℤ → List ℤ
list_with_item l a = if nat_lt (length l) most_items then l ++ a ∷ [] else l

-- Two lists in sequence, cut to as many items as a list can have.
abbrev pub concatenation : List ℤ → List ℤ → List ℤ
concatenation l k = take most_items (l ++ k)

-- The item at an index, or 0 if there is no such index.
abbrev pub item_at : List ℤ → ℤ → ℤ
item_at l (pos n) = slice_index_or l n (pos 0)
item_at l (negsuc n) = pos 0
