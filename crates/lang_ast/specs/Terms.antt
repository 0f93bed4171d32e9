-- Trusted: expressions, statements and functions without pointers, each with its offset in the source text.
use Rattle.std.specs.Prelude.{ℕ, suc, List, [], ◌∷◌}
use Rattle.rt_values.specs.declared.value.Value.{Value}
use Rattle.lang_ast.specs.declared.syntax.Ident.{Ident}
use Rattle.lang_ast.specs.declared.syntax.Operator.{Operator}
use Rattle.lang_ast.specs.declared.syntax.Parameter.{Parameter}
use Rattle.lang_ast.specs.declared.syntax.Source.{Source}

mutual
  -- An expression.
  pub data Expr : Type 0 where
    Literal : (at : ℕ) → (value : Value) → Expr
    Variable : (name : Ident) → Expr
    Get : (at : ℕ) → (name : Ident) → (source : Source) → Expr
    Apply : (at : ℕ) → (operator : Operator) → (operands : Exprs) → Expr

  -- Expressions in sequence.
  pub data Exprs : Type 0 where
    none : Exprs
    more : (first : Expr) → (rest : Exprs) → Exprs

-- A name with an expression: an attribute of a node, or a key of a `remember`.
pub record Named : Type 0 where
  pub name : Ident
  pub value : Expr

-- The head of a block: what a statement with a body evaluates before it, and which group or variable it makes.
pub data Head : Type 0 where
  Node : (kind : Ident) → (attributes : List Named) → Head
  Key : (key : Expr) → Head
  For : (name : Ident) → (list : Expr) → Head
  Let : (name : Ident) → (value : Expr) → Head
  Remember : (name : Ident) → (keys : List Named) → (value : Expr) → Head

mutual
  -- A statement, with its offset in the source text and its site.
  pub data Stmt : Type 0 where
    Call : (at site : ℕ) → (name : Ident) → (function : ℕ) → (arguments : Exprs) → Stmt
    If : (at site : ℕ) → (condition : Expr) → (then_branch else_branch : Stmts) → Stmt
    Block : (at site : ℕ) → (head : Head) → (body : Stmts) → Stmt

  -- Statements in sequence.
  pub data Stmts : Type 0 where
    done : Stmts
    next : (first : Stmt) → (rest : Stmts) → Stmts

-- A composable.
pub record Func : Type 0 where
  pub at : ℕ
  pub name : Ident
  pub parameters : List Parameter
  pub body : Stmts

-- The items of a list as a sequence of expressions.
abbrev pub exprs : List Expr → Exprs
exprs [] = none
exprs (e ∷ es) = more e (exprs es)

-- The number of expressions in sequence.
abbrev pub operand_count : Exprs → ℕ
operand_count none = 0
operand_count (more e es) = suc (operand_count es)

-- The items of a list as a sequence of statements.
abbrev pub stmts : List Stmt → Stmts
stmts [] = done
stmts (s ∷ ss) = next s (stmts ss)
