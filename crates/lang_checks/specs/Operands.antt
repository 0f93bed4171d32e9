-- Trusted: the types of operands and of results.
use Rattle.std.specs.Prelude.{◌&&◌, ◌||◌, List, [], ◌∷◌, Bool, true, false}
use Rattle.std.specs.List.{list_all}
use Rattle.rt_values.specs.declared.value.Ty.{Ty}
use Rattle.rt_values.specs.declared.value.Ty.TheVariants as ty
use Rattle.rt_values.specs.Values.{same_type}
use Rattle.lang_ast.specs.declared.syntax.Operator.{Operator}
use Rattle.lang_ast.specs.declared.syntax.Operator.TheVariants as operator

-- Whether two lists of types are equal.
abbrev pub same_types : List Ty → List Ty → Bool
same_types [] [] = true
same_types [] (u ∷ us) = false
same_types (t ∷ ts) [] = false
same_types (t ∷ ts) (u ∷ us) = same_type t u && same_types ts us

abbrev pub all_ints : List Ty → Bool
all_ints ts = list_all (λ t. same_type t ty.Int) ts

-- Whether the types are two equal ones.
abbrev pub is_pair : List Ty → Bool
is_pair (a ∷ b ∷ []) = same_type a b
is_pair _ = false

-- Whether the types are a Bool and two equal ones.
abbrev pub is_choice : List Ty → Bool
is_choice (c ∷ ts) = same_type c ty.Bool && is_pair ts
is_choice [] = false

-- Whether the types are one Int or one Bool.
abbrev pub is_plain : List Ty → Bool
is_plain (a ∷ []) = same_type a ty.Int || same_type a ty.Bool
is_plain _ = false

-- Whether an operator takes operands of these types.
abbrev pub accepts_types : Operator → List Ty → Bool
accepts_types operator.Add ts = same_types ts (ty.Int ∷ ty.Int ∷ [])
accepts_types operator.Subtract ts = same_types ts (ty.Int ∷ ty.Int ∷ [])
accepts_types operator.Multiply ts = same_types ts (ty.Int ∷ ty.Int ∷ [])
accepts_types operator.Divide ts = same_types ts (ty.Int ∷ ty.Int ∷ [])
accepts_types operator.Remainder ts = same_types ts (ty.Int ∷ ty.Int ∷ [])
accepts_types operator.Equal ts = is_pair ts
accepts_types operator.Less ts = same_types ts (ty.Int ∷ ty.Int ∷ [])
accepts_types operator.Not ts = same_types ts (ty.Bool ∷ [])
accepts_types operator.And ts = same_types ts (ty.Bool ∷ ty.Bool ∷ [])
accepts_types operator.Or ts = same_types ts (ty.Bool ∷ ty.Bool ∷ [])
accepts_types operator.Pick ts = is_choice ts
accepts_types operator.Join ts = same_types ts (ty.Text ∷ ty.Text ∷ [])
accepts_types operator.Text ts = is_plain ts
accepts_types operator.Ints ts = all_ints ts
accepts_types operator.Range ts = same_types ts (ty.Int ∷ ty.Int ∷ [])
accepts_types operator.Push ts = same_types ts (ty.Ints ∷ ty.Int ∷ [])
accepts_types operator.Concat ts = same_types ts (ty.Ints ∷ ty.Ints ∷ [])
accepts_types operator.Length ts = same_types ts (ty.Ints ∷ [])
accepts_types operator.At ts = same_types ts (ty.Ints ∷ ty.Int ∷ [])

-- The type of the second operand, or Int if there is none.
abbrev pub second_type : List Ty → Ty
second_type (t ∷ u ∷ ts) = u
second_type _ = ty.Int

-- The type of an operator's result: for a pick that of its second operand, and else the same for all operands.
abbrev pub result_type : Operator → List Ty → Ty
result_type operator.Add ts = ty.Int
result_type operator.Subtract ts = ty.Int
result_type operator.Multiply ts = ty.Int
result_type operator.Divide ts = ty.Int
result_type operator.Remainder ts = ty.Int
result_type operator.Equal ts = ty.Bool
result_type operator.Less ts = ty.Bool
result_type operator.Not ts = ty.Bool
result_type operator.And ts = ty.Bool
result_type operator.Or ts = ty.Bool
result_type operator.Pick ts = second_type ts
result_type operator.Join ts = ty.Text
result_type operator.Text ts = ty.Text
result_type operator.Ints ts = ty.Ints
result_type operator.Range ts = ty.Ints
result_type operator.Push ts = ty.Ints
result_type operator.Concat ts = ty.Ints
result_type operator.Length ts = ty.Int
result_type operator.At ts = ty.Int
