-- Trusted: expressions whose parts are all numbers or truth values, so that their evaluation needs no memory.
use Rattle.std.specs.Prelude.{ℕ, zero, suc, Bool, true, ◌&&◌}
use Rattle.rt_values.specs.Maps.{Map}
use Rattle.rt_values.specs.Values.{is_flat}
use Rattle.lang_ast.specs.Terms.{Expr, Literal, Variable, Get, Apply, Exprs, none, more}
use Rattle.lang_ast.specs.Evaluation.{Bindings, lookup, source_reading, eval}

abbrev mutual
  -- Whether an expression and each part of it have a number or a truth value.
  pub is_flat_expr : Map → Expr → Bindings → Bool
  is_flat_expr m (Literal at v) env = is_flat v
  is_flat_expr m (Variable name) env = is_flat (lookup env name.text)
  is_flat_expr m (Get at name source) env = is_flat (source_reading m source).value
  is_flat_expr m (Apply at op es) env = is_flat (eval m (Apply at op es) env).value && are_flat m es env

  -- Whether each of these expressions, and each part of them, has a number or a truth value.
  pub are_flat : Map → Exprs → Bindings → Bool
  are_flat m none env = true
  are_flat m (more e es) env = is_flat_expr m e env && are_flat m es env

-- Whether the expression at index `n`, if there is one, and each part of it have a number or a truth value.
abbrev pub is_flat_nth : Map → Exprs → ℕ → Bindings → Bool
is_flat_nth m none n env = true
is_flat_nth m (more e es) zero env = is_flat_expr m e env
is_flat_nth m (more e es) (suc n) env = is_flat_nth m es n env
