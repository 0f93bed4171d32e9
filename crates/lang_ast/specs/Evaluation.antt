-- Trusted: the value of an expression in a map of the state objects, with the objects that are read for it.
use Rattle.std.specs.Prelude.{ℕ, zero, suc, pos, List, [], ◌∷◌, map, length, take, Bool, true, false, not, ◌&&◌, ◌||◌, int_lt, if◌then◌else◌}
use Rattle.std.specs.Str.{bytes_eq}
use Rattle.rt_values.specs.declared.value.Value.{Value}
use Rattle.rt_values.specs.declared.value.Value.TheVariants as value
use Rattle.rt_values.specs.Limits.{most_items}
use Rattle.rt_values.specs.Values.{same_value, no_value}
use Rattle.rt_values.specs.Operators.{number_of, is_true, text_of, items_of, sum_of, difference, product, quotient, remainder, joined_text, plain_text, range, list_with_item, concatenation, item_at}
use Rattle.rt_values.specs.Maps.{Map, value_at}
use Rattle.lang_ast.specs.declared.binding.Binding.{Binding}
use Rattle.lang_ast.specs.declared.syntax.Operator.{Operator}
use Rattle.lang_ast.specs.declared.syntax.Operator.TheVariants as operator
use Rattle.lang_ast.specs.declared.syntax.Source.{Source}
use Rattle.lang_ast.specs.declared.syntax.Source.TheVariants as source
use Rattle.lang_ast.specs.Terms.{Expr, Literal, Variable, Get, Apply, Exprs, none, more, Named}
use Rattle.lang_ast.specs.ResultsWithReads.{Reading, pure_reading, mapped_reading, with}

-- The variables in scope with their values, the latest last.
abbrev pub Bindings : Type 0
Bindings = List Binding

abbrev pub new_binding : List ℕ → Value → Binding
new_binding name value = record { name = name; value = value }

-- The value of the last binding of a name, or v if there is none.
abbrev pub lookup_or : Value → Bindings → List ℕ → Value
lookup_or v [] name = v
lookup_or v (b ∷ env) name = lookup_or (if bytes_eq b.name name then b.value else v) env name

-- The value of a variable, or the default value if it is not bound.
abbrev pub lookup : Bindings → List ℕ → Value
lookup env name = lookup_or no_value env name

-- A missing operand has the default value.

abbrev pub first : List Value → Value
first [] = no_value
first (v ∷ vs) = v

abbrev pub second : List Value → Value
second [] = no_value
second (v ∷ vs) = first vs

-- The result of an operator for the values of its operands. `eval` treats `Pick` itself, since it evaluates only two
-- of its operands.
abbrev pub apply : Operator → List Value → Value
apply operator.Add vs = value.Int (sum_of (number_of (first vs)) (number_of (second vs)))
apply operator.Subtract vs = value.Int (difference (number_of (first vs)) (number_of (second vs)))
apply operator.Multiply vs = value.Int (product (number_of (first vs)) (number_of (second vs)))
apply operator.Divide vs = value.Int (quotient (number_of (first vs)) (number_of (second vs)))
apply operator.Remainder vs = value.Int (remainder (number_of (first vs)) (number_of (second vs)))
apply operator.Equal vs = value.Bool (same_value (first vs) (second vs))
apply operator.Less vs = value.Bool (int_lt (number_of (first vs)) (number_of (second vs)))
apply operator.Not vs = value.Bool (not (is_true (first vs)))
apply operator.And vs = value.Bool (is_true (first vs) && is_true (second vs))
apply operator.Or vs = value.Bool (is_true (first vs) || is_true (second vs))
apply operator.Pick vs = no_value
apply operator.Join vs = value.Text (joined_text (text_of (first vs)) (text_of (second vs)))
apply operator.Text vs = value.Text (plain_text (first vs))
apply operator.Ints vs = value.Ints (take most_items (map number_of vs))
apply operator.Range vs = value.Ints (range (number_of (first vs)) (number_of (second vs)))
apply operator.Push vs = value.Ints (list_with_item (items_of (first vs)) (number_of (second vs)))
apply operator.Concat vs = value.Ints (concatenation (items_of (first vs)) (items_of (second vs)))
apply operator.Length vs = value.Int (pos (length (items_of (first vs))))
apply operator.At vs = value.Int (item_at (items_of (first vs)) (number_of (second vs)))

abbrev pub is_pick : Operator → Bool
is_pick operator.Pick = true
is_pick _ = false

-- The index of the operand that a pick takes, by its condition.
abbrev pub operand_taken : Value → ℕ
operand_taken condition = if is_true condition then 1 else 2

-- The value of what a `Get` names, and the object that is read for it.
abbrev pub source_reading : Map → Source → Reading Value
source_reading m (source.State x) = record { value = value_at m x; reads = x ∷ [] }

abbrev mutual
  -- A `Get` reads its object. A `Pick` evaluates its condition and then one other operand. The other operators
  -- evaluate all operands from left to right.
  pub eval : Map → Expr → Bindings → Reading Value
  eval m (Literal at v) env = pure_reading v
  eval m (Variable name) env = pure_reading (lookup env name.text)
  eval m (Get at name source) env = source_reading m source
  eval m (Apply at op es) env =
      if is_pick op then with (eval_nth m es 0 env) (λ condition. eval_nth m es (operand_taken condition) env)
      else mapped_reading (apply op) (eval_all m es env)

  -- The values of expressions, from left to right.
  pub eval_all : Map → Exprs → Bindings → Reading (List Value)
  eval_all m none env = pure_reading []
  eval_all m (more e es) env = with (eval m e env) (λ v. mapped_reading (λ vs. v ∷ vs) (eval_all m es env))

  -- The value of the expression at index n. The others are not evaluated.
  pub eval_nth : Map → Exprs → ℕ → Bindings → Reading Value
  eval_nth m none n env = pure_reading no_value
  eval_nth m (more e es) zero env = eval m e env
  eval_nth m (more e es) (suc n) env = eval_nth m es n env

-- Each name with its value, from left to right.
abbrev pub eval_named : Map → List Named → Bindings → Reading (List Binding)
eval_named m [] env = pure_reading []
eval_named m (n ∷ ns) env =
    with (eval m n.value env) (λ v. mapped_reading (λ bs. new_binding n.name.text v ∷ bs) (eval_named m ns env))
