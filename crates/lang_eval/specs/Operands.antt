-- Internal: collecting the values of operands one by one, and classes of operators.
use Rattle.std.specs.Prelude.{ℕ, zero, suc, ℤ, List, [], ◌∷◌, Bool, true, false}
use Rattle.rt_values.specs.declared.value.Value.{Value}
use Rattle.rt_values.specs.Operators.{list_with_item}
use Rattle.lang_ast.specs.declared.syntax.Operator.{Operator}
use Rattle.lang_ast.specs.declared.syntax.Operator.TheVariants as operator
use Rattle.lang_eval.specs.declared.applying.Pair.{Pair}

-- Whether an operator has any number of operands.
abbrev pub is_list : Operator → Bool
is_list operator.Ints = true
is_list _ = false

-- Whether an operator of two operands takes or makes a list.
abbrev pub makes_list : Operator → Bool
makes_list operator.Range = true
makes_list operator.Push = true
makes_list operator.Concat = true
makes_list operator.Length = true
makes_list operator.At = true
makes_list _ = false

-- Whether an operator makes a number or a truth value without reading a list or a text.
abbrev pub is_plain : Operator → Bool
is_plain operator.Join = false
is_plain operator.Text = false
is_plain operator.Ints = false
is_plain operator.Range = false
is_plain operator.Push = false
is_plain operator.Concat = false
is_plain operator.Length = false
is_plain operator.At = false
is_plain _ = true

abbrev pub pair : Value → Value → Pair
pair v w = record { first = v; second = w }

-- The pair with the operand at index n replaced. Only the first two operands are kept.
abbrev pub pair_with : Pair → ℕ → Value → Pair
pair_with p zero v = pair v p.second
pair_with p (suc zero) v = pair p.first v
pair_with p (suc (suc n)) v = p

-- The pair with the operands from index n on replaced.
abbrev pub pair_from : Pair → ℕ → List Value → Pair
pair_from p n [] = p
pair_from p n (v ∷ vs) = pair_from (pair_with p n v) (suc n) vs

-- A list with numbers appended one by one, up to the limit of a list.
abbrev pub list_with_all : List ℤ → List ℤ → List ℤ
list_with_all l [] = l
list_with_all l (z ∷ zs) = list_with_all (list_with_item l z) zs
