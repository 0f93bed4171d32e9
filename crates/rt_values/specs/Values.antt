-- Trusted: the types of values, their equality and their printed forms.
use Rattle.std.specs.Prelude.{ℕ, ℤ, Bool, true, false, List, [], ◌∷◌, ◌++◌, ◌==◌, pos, codes, if◌then◌else◌}
use Rattle.std.specs.Bool.{beq}
use Rattle.std.specs.Ordering.{int_eq}
use Rattle.std.specs.Str.{bytes_eq}
use Rattle.std.specs.Fmt.{signed_decimal}
use Rattle.std.specs.Cmp.Lexicographic.{pointwise}
use Rattle.rt_values.specs.declared.value.Value.{Value}
use Rattle.rt_values.specs.declared.value.Value.TheVariants as value
use Rattle.rt_values.specs.declared.value.Ty.{Ty}
use Rattle.rt_values.specs.declared.value.Ty.TheVariants as ty

-- The type of a value.
abbrev pub type_of : Value → Ty
type_of (value.Int z) = ty.Int
type_of (value.Bool b) = ty.Bool
type_of (value.Text t) = ty.Text
type_of (value.Ints l) = ty.Ints

abbrev pub same_type : Ty → Ty → Bool
same_type ty.Int ty.Int = true
same_type ty.Bool ty.Bool = true
same_type ty.Text ty.Text = true
same_type ty.Ints ty.Ints = true
same_type ty.Int _ = false
same_type ty.Bool _ = false
same_type ty.Text _ = false
same_type ty.Ints _ = false

abbrev pub same_items : List ℤ → List ℤ → Bool
same_items = pointwise int_eq

-- Whether two values are equal: they have one type and equal contents.
abbrev pub same_value : Value → Value → Bool
same_value (value.Int a) (value.Int b) = int_eq a b
same_value (value.Bool a) (value.Bool b) = beq a b
same_value (value.Text a) (value.Text b) = bytes_eq a b
same_value (value.Ints a) (value.Ints b) = same_items a b
same_value (value.Int a) _ = false
same_value (value.Bool a) _ = false
same_value (value.Text a) _ = false
same_value (value.Ints a) _ = false

abbrev pub same_values : List Value → List Value → Bool
same_values = pointwise same_value

-- The literal of a truth value.
abbrev pub truth_text : Bool → List ℕ
truth_text true = codes "true"
truth_text false = codes "false"

-- A byte of a string literal. Only a quote, a backslash and a line feed are escaped.
abbrev pub escape : ℕ → List ℕ
escape b = if b == 34 then 92 ∷ 34 ∷ [] else if b == 92 then 92 ∷ 92 ∷ [] else if b == 10 then 92 ∷ 110 ∷ [] else b ∷ []

abbrev pub escape_all : List ℕ → List ℕ
escape_all [] = []
escape_all (b ∷ bs) = escape b ++ escape_all bs

-- The decimal digits of the numbers, each after a space.
abbrev pub items_text : List ℤ → List ℕ
items_text [] = []
items_text (z ∷ zs) = 32 ∷ signed_decimal z ++ items_text zs

-- The literal of a value: decimal digits for an Int, true or false, a Text in quotes, (ints 1 2) for an Ints.
abbrev pub value_text : Value → List ℕ
value_text (value.Int z) = signed_decimal z
value_text (value.Bool b) = truth_text b
value_text (value.Text t) = 34 ∷ escape_all t ++ 34 ∷ []
value_text (value.Ints l) = codes "(ints" ++ items_text l ++ 41 ∷ []

-- Whether a copy takes no memory: the value is an Int or a Bool.
abbrev pub is_flat : Value → Bool
is_flat (value.Int z) = true
is_flat (value.Bool b) = true
is_flat (value.Text t) = false
is_flat (value.Ints l) = false

-- The default value, which a missing state or operand has.
abbrev pub no_value : Value
no_value = value.Int (pos 0)
