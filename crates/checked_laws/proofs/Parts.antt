-- If a program has no fault, its parts have none.
use Rattle.std.proofs.Common.{◌≡◌, ℕ, ◌+◌, List, [], ◌∷◌, ◌++◌, map, length, nat_lt}
use Rattle.lang_ast.specs.Terms.{Stmt, Call, If, Block, Stmts, done, next, Func}
use Rattle.lang_ast.specs.Programs.{Program, root_number, statement_with_inner, statements_in, functions_statements, Each}
use Rattle.lang_ast.proofs.Statements.{each_joined, each_follows}
use Rattle.lang_ast.specs.declared.program.State.{State}
use Rattle.lang_checks.specs.declared.environment.TypedName.{TypedName}
use Rattle.lang_checks.specs.declared.faults.CheckKind.TheVariants as kind
use Rattle.lang_checks.specs.FaultOrder.{fault_unless}
use Rattle.lang_checks.specs.Scopes.{named_function, duplicate_faults}
use Rattle.lang_checks.specs.Chains.{chains_faults}
use Rattle.lang_checks.specs.Expressions.{types_of, expr_faults, exprs_faults}
use Rattle.lang_checks.specs.Statements.{StatementContext, plain_scope, callee_faults, head_faults, bound_by, stmt_faults, stmts_faults}
use Rattle.lang_checks.specs.ProgramFaults.{bound_parameters, states_faults, functions_faults, program_faults}
use Rattle.lang_ast.proofs.Limits.{none_in}

-- The parts of a statement have no faults.
abbrev pub PartsAreFine : StatementContext → List TypedName → Stmt → Type 0
PartsAreFine p scope (Call at site name function arguments) =
    (exprs_faults (plain_scope p.states scope) arguments ≡ [])
    × (callee_faults p.me at (types_of (plain_scope p.states scope) arguments) (named_function p.functions name.text function)
    ≡ [])
PartsAreFine p scope (If at site condition then_branch else_branch) =
    (expr_faults (plain_scope p.states scope) condition ≡ []) × (stmts_faults p scope then_branch ≡ [])
    × (stmts_faults p scope else_branch ≡ [])
PartsAreFine p scope (Block at site head body) =
    (head_faults p scope at head ≡ []) × (stmts_faults p (scope ++ bound_by p scope head) body ≡ [])

pub parts : (p : StatementContext) (scope : List TypedName) (s : Stmt) → stmt_faults p scope s ≡ []
    → PartsAreFine p scope s
parts p scope (Call at site name function arguments) h = none_in _ _ h
parts p scope (If at site condition then_branch else_branch) h =
    let rest = none_in _ _ h in
    let both = none_in _ _ (none_in _ _ rest.1).1 in
    (rest.0, both.0, both.1)
parts p scope (Block at site head body) h = none_in _ _ h

-- A statement of a function has no faults, with some variables in scope.
pub record IsFine (p : StatementContext) (s : Stmt) : Type 0 where
  pub scope : List TypedName
  pub none : stmt_faults p scope s ≡ []

mutual
  inner_are_fine : (p : StatementContext) (scope : List TypedName) (s : Stmt) → stmt_faults p scope s ≡ []
      → Each (IsFine p) (statement_with_inner s)
  inner_are_fine p scope (Call at site name function arguments) h = (record { scope = scope; none = h }, tt)
  inner_are_fine p scope (If at site condition a b) h =
      let fine = parts p scope (If at site condition a b) h in (
        record { scope = scope; none = h },
        each_joined (IsFine p) (statements_in a) (statements_in b) (all_are_fine p scope a fine.1)
            (all_are_fine p scope b fine.2),
      )
  inner_are_fine p scope (Block at site head body) h =
      (record { scope = scope; none = h }, all_are_fine p _ body (parts p scope (Block at site head body) h).1)

  -- Each statement in a body without faults has no faults.
  pub all_are_fine : (p : StatementContext) (scope : List TypedName) (ss : Stmts) → stmts_faults p scope ss ≡ []
      → Each (IsFine p) (statements_in ss)
  all_are_fine p scope done h = tt
  all_are_fine p scope (next s ss) h =
      let both = none_in _ _ h in
      each_joined (IsFine p) (statement_with_inner s) (statements_in ss) (inner_are_fine p scope s both.0)
      (all_are_fine p scope ss both.1)

abbrev pub context : List State → List Func → ℕ → StatementContext
context states functions me = record { states = states; functions = functions; me = me }

-- A statement of some function has no faults.
abbrev pub IsFineIn : List State → List Func → Stmt → Type 0
IsFineIn states functions s = (me : ℕ) × IsFine (context states functions me) s

-- The bodies of functions have no faults, where the first of these functions is function `me`.
abbrev pub BodiesAreFine : List State → List Func → ℕ → List Func → Type 0
BodiesAreFine states functions me [] = Unit {0}
BodiesAreFine states functions me (f ∷ fs) =
    (stmts_faults (context states functions me) (bound_parameters f.parameters) f.body ≡ [])
    × BodiesAreFine states functions (me + 1) fs

-- Each statement of such functions has no faults.
pub functions_are_fine : (states : List State) (functions : List Func) (me : ℕ) (fs : List Func)
    → BodiesAreFine states functions me fs → Each (IsFineIn states functions) (functions_statements fs)
functions_are_fine states functions me [] h = tt
functions_are_fine states functions me (f ∷ fs) h =
    each_joined (IsFineIn states functions) (statements_in f.body) (functions_statements fs)
    (each_follows (IsFine (context states functions me)) (IsFineIn states functions) (statements_in f.body)
    (λ s fine. (me, fine)) (all_are_fine (context states functions me) _ f.body h.0))
    (functions_are_fine states functions (me + 1) fs h.1)

bodies_from : (states : List State) (functions : List Func) (me : ℕ) (fs : List Func)
    → functions_faults states functions me fs ≡ [] → BodiesAreFine states functions me fs
bodies_from states functions me [] h = tt
bodies_from states functions me (f ∷ fs) h =
    let rest = none_in _ _ h in
    ((none_in _ _ (none_in _ _ rest.0).1).1, bodies_from states functions (me + 1) fs rest.1)

pub bodies : (p : Program) → program_faults p ≡ [] → BodiesAreFine p.states p.functions 0 p.functions
bodies p h =
    let functions = functions_faults p.states p.functions 0 p.functions ++ chains_faults [] p.functions in
    let states = states_faults p.states ++ functions in
    let root = fault_unless (nat_lt (root_number p.functions) (length p.functions)) kind.Unknown p.header ++ states in
    let after_states = none_in (duplicate_faults [] (map (λ s. s.name) p.states))
    (duplicate_faults [] (map (λ f. f.name) p.functions) ++ root) h in
    let after_names = none_in (duplicate_faults [] (map (λ f. f.name) p.functions)) root after_states.1 in
    let after_root = none_in (fault_unless (nat_lt (root_number p.functions) (length p.functions)) kind.Unknown
    p.header) states after_names.1 in
    let after_types = none_in (states_faults p.states) functions after_root.1 in
    bodies_from p.states p.functions 0 p.functions
    (none_in (functions_faults p.states p.functions 0 p.functions) (chains_faults [] p.functions) after_types.1).0
