-- Trusted: the parts of a program that are too many, too long or nested too deep.
use Rattle.std.specs.Prelude.{ℕ, ◌+◌, max, nat_lt, List, [], ◌∷◌, ◌++◌, length, map, slice_get, Bool, false, Option, Some, None, if◌then◌else◌}
use Rattle.lang_ast.specs.Terms.{Expr, Literal, Variable, Get, Apply, Exprs, none, more, Named, Head, Node, Key, For, Let, Remember, Stmt, Call, If, Block, Stmts, done, next, Func, operand_count}
use Rattle.lang_ast.specs.Offsets.{expr_offset}
use Rattle.lang_ast.specs.declared.program.State.{State}
use Rattle.lang_ast.specs.declared.syntax.Ident.{Ident}
use Rattle.lang_ast.specs.declared.syntax.Parameter.{Parameter}
use Rattle.lang_ast.specs.declared.syntax.Operator.{Operator}
use Rattle.lang_ast.specs.declared.syntax.Operator.TheVariants as operator
use Rattle.rt_values.specs.Limits.{most_items}

-- The offset, if something exceeds a limit there.
abbrev pub offset_if : Bool → ℕ → List ℕ
offset_if is_over at = if is_over then at ∷ [] else []

-- The most states of a program, and the most functions.
abbrev pub most_forms : ℕ
most_forms = 256

-- The most parameters of a function, attributes of a node and keys of a remember, and the most nested blocks.
abbrev pub most_parts : ℕ
most_parts = 16

-- The most nested expressions.
abbrev pub most_nesting : ℕ
most_nesting = 64

-- The most bytes of a name.
abbrev pub most_name_bytes : ℕ
most_name_bytes = 64

-- The offset of a name that is too long.
abbrev pub name_sizes : Ident → List ℕ
name_sizes n = offset_if (nat_lt most_name_bytes (length n.text)) n.at

-- Whether an operator makes a list of too many numbers.
abbrev pub is_long_list : Operator → ℕ → Bool
is_long_list operator.Ints n = nat_lt most_items n
is_long_list _ n = false

-- The offsets of names that are too long and of lists of too many numbers in an expression.
abbrev mutual
  pub expr_lengths : Expr → List ℕ
  expr_lengths (Literal at v) = []
  expr_lengths (Variable n) = name_sizes n
  expr_lengths (Get at n source) = name_sizes n
  expr_lengths (Apply at operator es) = offset_if (is_long_list operator (operand_count es)) at ++ exprs_lengths es

  pub exprs_lengths : Exprs → List ℕ
  exprs_lengths none = []
  exprs_lengths (more e es) = expr_lengths e ++ exprs_lengths es

-- The nesting of an expression: 1 for a leaf, and one more than the deepest operand for a list.
abbrev mutual
  pub nesting : Expr → ℕ
  nesting (Literal at v) = 1
  nesting (Variable n) = 1
  nesting (Get at n source) = 1
  nesting (Apply at operator es) = deepest es + 1

  pub deepest : Exprs → ℕ
  deepest none = 0
  deepest (more e es) = max (nesting e) (deepest es)

-- The offset of an outermost expression that nests too deep, and those of what is too long in it.
abbrev pub expr_sizes : Expr → List ℕ
expr_sizes e = offset_if (nat_lt most_nesting (nesting e)) (expr_offset e) ++ expr_lengths e

abbrev pub exprs_sizes : Exprs → List ℕ
exprs_sizes none = []
exprs_sizes (more e es) = expr_sizes e ++ exprs_sizes es

abbrev pub named_sizes : List Named → List ℕ
named_sizes [] = []
named_sizes (n ∷ ns) = name_sizes n.name ++ expr_sizes n.value ++ named_sizes ns

-- The offsets of the oversized parts of the head of a statement at this offset: of a name that is too long, of a node
-- with too many attributes and of a remember with too many keys, and of the expressions.
abbrev pub head_sizes : ℕ → Head → List ℕ
head_sizes at (Node n ns) = name_sizes n ++ offset_if (nat_lt most_parts (length ns)) at ++ named_sizes ns
head_sizes at (Key e) = expr_sizes e
head_sizes at (For n e) = name_sizes n ++ expr_sizes e
head_sizes at (Let n e) = name_sizes n ++ expr_sizes e
head_sizes at (Remember n ks e) =
    name_sizes n ++ offset_if (nat_lt most_parts (length ks)) at ++ named_sizes ks ++ expr_sizes e

-- The offsets of the oversized parts of statements in d blocks: of a name that is too long, of a statement that is
-- nested too deep, and of the heads and the expressions. The body of a statement is in one block more.
abbrev mutual
  pub stmt_sizes : ℕ → Stmt → List ℕ
  stmt_sizes d (Call at site n function es) = name_sizes n ++ offset_if (nat_lt most_parts d) at ++ exprs_sizes es
  stmt_sizes d (If at site e a b) = offset_if (nat_lt most_parts d) at ++ expr_sizes e ++ stmts_sizes (d + 1) a
      ++ stmts_sizes (d + 1) b
  stmt_sizes d (Block at site h body) =
      offset_if (nat_lt most_parts d) at ++ head_sizes at h ++ stmts_sizes (d + 1) body

  pub stmts_sizes : ℕ → Stmts → List ℕ
  stmts_sizes d done = []
  stmts_sizes d (next s ss) = stmt_sizes d s ++ stmts_sizes d ss

abbrev pub parameters_sizes : List Parameter → List ℕ
parameters_sizes [] = []
parameters_sizes (p ∷ ps) = name_sizes p.name ++ parameters_sizes ps

-- The offset of a function with too many parameters, and those of its names that are too long and of its oversized
-- statements, which are in 1 block.
abbrev pub function_sizes : Func → List ℕ
function_sizes f = name_sizes f.name ++ parameters_sizes f.parameters
    ++ offset_if (nat_lt most_parts (length f.parameters)) f.at ++ stmts_sizes 1 f.body

abbrev pub functions_sizes : List Func → List ℕ
functions_sizes [] = []
functions_sizes (f ∷ fs) = function_sizes f ++ functions_sizes fs

abbrev pub states_sizes : List State → List ℕ
states_sizes [] = []
states_sizes (s ∷ ss) = name_sizes s.name ++ states_sizes ss

-- The first of these offsets over the limit of forms.
abbrev pub first_excess : List ℕ → List ℕ
first_excess offsets = told (slice_get offsets most_forms)
  where
    told : Option ℕ → List ℕ
    told None = []
    told (Some at) = at ∷ []

abbrev pub state_offset : State → ℕ
state_offset s = s.at

abbrev pub function_offset : Func → ℕ
function_offset f = f.at

-- The offsets of the oversized parts of a program with these states and functions: the 257th state, the 257th function,
-- and those in the states and functions.
abbrev pub oversized_parts : List State → List Func → List ℕ
oversized_parts states functions = first_excess (map state_offset states) ++ first_excess (map function_offset functions)
    ++ (states_sizes states ++ functions_sizes functions)
