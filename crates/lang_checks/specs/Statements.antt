-- Trusted: the faults of statements.
use Rattle.std.specs.Prelude.{ℕ, nat_lt, List, [], ◌∷◌, ◌++◌, map, true, false, Option, Some, None}
use Rattle.rt_values.specs.declared.value.Ty.{Ty}
use Rattle.rt_values.specs.declared.value.Ty.TheVariants as ty
use Rattle.rt_values.specs.Values.{same_type}
use Rattle.lang_ast.specs.declared.syntax.Ident.{Ident}
use Rattle.lang_ast.specs.declared.syntax.Parameter.{Parameter}
use Rattle.lang_ast.specs.declared.program.State.{State}
use Rattle.lang_ast.specs.Terms.{Named, Head, Node, Key, For, Let, Remember, Stmt, Call, If, Block, Stmts, done, next, Func}
use Rattle.lang_checks.specs.declared.environment.TypedName.{TypedName}
use Rattle.lang_checks.specs.declared.faults.CheckKind.TheVariants as kind
use Rattle.lang_checks.specs.declared.faults.ProgramFault.{ProgramFault}
use Rattle.lang_checks.specs.FaultOrder.{fault, fault_unless}
use Rattle.lang_checks.specs.Scopes.{typed_name, is_unbound, duplicate_faults, named_function}
use Rattle.lang_checks.specs.Operands.{same_types}
use Rattle.lang_checks.specs.Expressions.{ExpressionScope, type, types_of, expr_faults, exprs_faults, values_faults, typed_names}

-- What a statement may name: the states, the functions, and the number of the function around it.
pub record StatementContext : Type 0 where
  pub states : List State
  pub functions : List Func
  pub me : ℕ

-- The names that an expression outside calculations may use.
abbrev pub plain_scope : List State → List TypedName → ExpressionScope
plain_scope states scope = record { states = states; scope = scope; keys = []; calculating = false }

-- The names that the calculation of a remember may use: its keys, each with the type of its expression.
abbrev pub inside : List State → List TypedName → List Named → ExpressionScope
inside states scope keys = record
    { states = states; scope = scope; keys = typed_names (plain_scope states scope) keys; calculating = true }

abbrev pub names : List Named → List Ident
names ns = map (λ n. n.name) ns

abbrev pub parameter_types : List Parameter → List Ty
parameter_types ps = map (λ q. q.ty) ps

-- The faults of a call. No such function is unknown, the function itself or a later one is out of order, and the
-- arguments must have the types of the parameters.
abbrev pub callee_faults : ℕ → ℕ → List Ty → Option (ℕ × Func) → List ProgramFault
callee_faults me at ts None = fault kind.Unknown at ∷ []
callee_faults me at ts (Some f) = fault_unless (nat_lt f.0 me) kind.Order at
    ++ fault_unless (same_types (parameter_types f.1.parameters) ts) kind.Type at

-- The faults of a binding: a variable in scope may not be bound again.
abbrev pub binding_faults : List TypedName → Ident → List ProgramFault
binding_faults scope n = fault_unless (is_unbound n.text scope) kind.Double n.at

-- The variable that the body of a head may use besides those in scope, if there is one.
abbrev pub bound_by : StatementContext → List TypedName → Head → List TypedName
bound_by p scope (Node kind attributes) = []
bound_by p scope (Key key) = []
-- The name of a for is an Int.
bound_by p scope (For name list) = typed_name name ty.Int ∷ []
bound_by p scope (Let name value) = typed_name name (type (plain_scope p.states scope) value) ∷ []
bound_by p scope (Remember name keys value) = typed_name name (type (inside p.states scope keys) value) ∷ []

-- The faults of the head of a statement at this offset, with these variables in scope.
abbrev pub head_faults : StatementContext → List TypedName → ℕ → Head → List ProgramFault
-- A node: attributes have unique names.
head_faults p scope at (Node kind attributes) =
    duplicate_faults [] (names attributes) ++ values_faults (plain_scope p.states scope) attributes
head_faults p scope at (Key key) = expr_faults (plain_scope p.states scope) key
-- A for: the list is an Ints.
head_faults p scope at (For name list) =
    expr_faults (plain_scope p.states scope) list
    ++ (fault_unless (same_type (type (plain_scope p.states scope) list) ty.Ints) kind.Type at
    ++ binding_faults scope name)
head_faults p scope at (Let name value) = expr_faults (plain_scope p.states scope) value ++ binding_faults scope name
-- A remember: keys have unique names. Keys use what is around them, and the calculation uses the keys.
head_faults p scope at (Remember name keys value) =
    duplicate_faults [] (names keys) ++ (values_faults (plain_scope p.states scope) keys
    ++ (expr_faults (inside p.states scope keys) value ++ binding_faults scope name))

abbrev mutual
  -- The faults of a statement with these variables in scope.
  pub stmt_faults : StatementContext → List TypedName → Stmt → List ProgramFault
  stmt_faults p scope (Call at site name function arguments) =
      exprs_faults (plain_scope p.states scope) arguments
      ++ callee_faults p.me at (types_of (plain_scope p.states scope) arguments)
      (named_function p.functions name.text function)
  -- An if: the condition is a Bool.
  stmt_faults p scope (If at site condition then_branch else_branch) =
      expr_faults (plain_scope p.states scope) condition
      ++ (fault_unless (same_type (type (plain_scope p.states scope) condition) ty.Bool) kind.Type at
      ++ (stmts_faults p scope then_branch ++ stmts_faults p scope else_branch))
  -- The faults of the body come after those of the head.
  stmt_faults p scope (Block at site head body) =
      head_faults p scope at head ++ stmts_faults p (scope ++ bound_by p scope head) body

  -- The faults of statements in order.
  pub stmts_faults : StatementContext → List TypedName → Stmts → List ProgramFault
  stmts_faults p scope done = []
  stmts_faults p scope (next s ss) = stmt_faults p scope s ++ stmts_faults p scope ss
