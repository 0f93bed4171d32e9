-- Trusted: the types of expressions, and their faults.
use Rattle.std.specs.Prelude.{ℕ, ◌||◌, not, List, [], ◌∷◌, ◌++◌, Bool, Option}
use Rattle.std.specs.Option.{is_some, unwrap_or}
use Rattle.rt_values.specs.declared.value.Ty.{Ty}
use Rattle.rt_values.specs.declared.value.Ty.TheVariants as ty
use Rattle.rt_values.specs.Values.{type_of}
use Rattle.lang_ast.specs.declared.program.State.{State}
use Rattle.lang_ast.specs.declared.syntax.Source.{Source}
use Rattle.lang_ast.specs.Terms.{Expr, Literal, Variable, Get, Apply, Exprs, none, more, Named}
use Rattle.lang_checks.specs.declared.environment.TypedName.{TypedName}
use Rattle.lang_checks.specs.declared.faults.CheckKind.TheVariants as kind
use Rattle.lang_checks.specs.declared.faults.ProgramFault.{ProgramFault}
use Rattle.lang_checks.specs.FaultOrder.{fault_unless}
use Rattle.lang_checks.specs.Scopes.{typed_name, bound_type, source_type}
use Rattle.lang_checks.specs.Operands.{accepts_types, result_type}

-- What an expression may name: the states, the variables around it, and in the calculation of a remember its keys.
pub record ExpressionScope : Type 0 where
  pub states : List State
  pub scope : List TypedName
  pub keys : List TypedName
  pub calculating : Bool

-- The type, or Int for a name without one, which is a fault.
abbrev pub or_int : Option Ty → Ty
or_int o = unwrap_or o ty.Int

-- The type of a variable: a key comes before a variable around it.
abbrev pub variable_type : ExpressionScope → List ℕ → Ty
variable_type l name = unwrap_or (bound_type name l.keys) (or_int (bound_type name l.scope))

abbrev mutual
  -- The type of an expression.
  pub type : ExpressionScope → Expr → Ty
  type l (Literal at v) = type_of v
  type l (Variable n) = variable_type l n.text
  type l (Get at n source) = or_int (source_type l.states n.text source)
  type l (Apply at op es) = result_type op (types_of l es)

  pub types_of : ExpressionScope → Exprs → List Ty
  types_of l none = []
  types_of l (more e es) = type l e ∷ types_of l es

-- The faults of a variable. A name without a value is unknown. A calculation may use only keys, but a variable around
-- it is not unknown.
abbrev pub variable_faults : ExpressionScope → List ℕ → ℕ → List ProgramFault
variable_faults l name at =
    fault_unless (is_some (bound_type name l.keys) || is_some (bound_type name l.scope)) kind.Unknown at
    ++ fault_unless (not l.calculating || is_some (bound_type name l.keys)) kind.Remember at

-- The faults of a `get`. A name of no state is unknown. A calculation may read no state.
abbrev pub get_faults : ExpressionScope → List ℕ → Source → ℕ → List ProgramFault
get_faults l name source at =
    fault_unless (is_some (source_type l.states name source)) kind.Unknown at
    ++ fault_unless (not l.calculating) kind.Remember at

abbrev mutual
  -- The faults of an expression. Operands of the wrong types are a fault of the operator's list.
  pub expr_faults : ExpressionScope → Expr → List ProgramFault
  expr_faults l (Literal at v) = []
  expr_faults l (Variable n) = variable_faults l n.text n.at
  expr_faults l (Get at n source) = get_faults l n.text source at
  expr_faults l (Apply at op es) = exprs_faults l es ++ fault_unless (accepts_types op (types_of l es)) kind.Type at

  pub exprs_faults : ExpressionScope → Exprs → List ProgramFault
  exprs_faults l none = []
  exprs_faults l (more e es) = expr_faults l e ++ exprs_faults l es

-- The faults of named expressions.
abbrev pub values_faults : ExpressionScope → List Named → List ProgramFault
values_faults l [] = []
values_faults l (n ∷ ns) = expr_faults l n.value ++ values_faults l ns

-- Each name, bound to the type of its expression.
abbrev pub typed_names : ExpressionScope → List Named → List TypedName
typed_names l [] = []
typed_names l (n ∷ ns) = typed_name n.name (type l n.value) ∷ typed_names l ns
