-- Trusted: the program of a generated input with so many rows.
use Rattle.std.specs.Prelude.{ℕ, ℤ, List, [], ◌∷◌, pos, codes}
use Rattle.rt_values.specs.declared.value.Value.{Value}
use Rattle.rt_values.specs.declared.value.Value.TheVariants as value
use Rattle.rt_values.specs.declared.value.Ty.{Ty}
use Rattle.rt_values.specs.declared.value.Ty.TheVariants as ty
use Rattle.rt_values.specs.Operators.{range}
use Rattle.snap_policy.specs.declared.policy.BuiltIn.{BuiltIn}
use Rattle.snap_policy.specs.declared.policy.BuiltIn.TheVariants as policy
use Rattle.lang_ast.specs.declared.syntax.Ident.{Ident}
use Rattle.lang_ast.specs.declared.syntax.Operator.TheVariants as operator
use Rattle.lang_ast.specs.declared.syntax.Parameter.{Parameter}
use Rattle.lang_ast.specs.declared.syntax.Source.TheVariants as source
use Rattle.lang_ast.specs.declared.program.State.{State}
use Rattle.lang_ast.specs.declared.program.Version.TheVariants as version
use Rattle.lang_ast.specs.Terms.{Expr, Variable, Get, Apply, none, more, Named, Head, Node, Key, For, Remember, Stmt, Call, Block, Func, exprs, stmts}
use Rattle.lang_ast.specs.Programs.{Program}

-- A generated program has no text, so the offset of each part is 0.
abbrev pub ident : List ℕ → Ident
ident name = record { at = 0; text = name }

abbrev pub state : List ℕ → Ty → BuiltIn → Value → State
state name type policy initial = record { at = 0; name = ident name; ty = type; policy = policy; initial = initial }

abbrev pub variable : List ℕ → Expr
variable name = Variable (ident name)

-- `(get NAME)`, for the state with this number.
abbrev pub state_value : List ℕ → ℕ → Expr
state_value name number = Get 0 (ident name) (source.State number)

abbrev pub product : Expr → Expr → Expr
product a b = Apply 0 operator.Multiply (more a (more b none))

-- `(NAME EXPR)`: an attribute of a node, or a key of a `remember`.
abbrev pub named_value : List ℕ → Expr → Named
named_value name e = record { name = ident name; value = e }

abbrev pub block : ℕ → Head → List Stmt → Stmt
block site head body = Block 0 site head (stmts body)

abbrev pub function : List ℕ → List Parameter → List Stmt → Func
function name parameters body = record { at = 0; name = ident name; parameters = parameters; body = stmts body }

-- The items at the start: 0, 1, .. below the number of rows.
abbrev pub first_items : ℕ → List ℤ
first_items size = range (pos 0) (pos size)

abbrev pub generated_states : ℕ → List State
generated_states size =
    state (codes "items") ty.Ints policy.Structural (value.Ints (first_items size))
    ∷ state (codes "total") ty.Int policy.Counter (value.Int (pos 0))
    ∷ state (codes "best") ty.Int policy.Largest (value.Int (pos 0))
    ∷ state (codes "scale") ty.Int policy.Structural (value.Int (pos 1))
    ∷ []

-- `(node Row ((item i) (square sq) (scaled (* i (get scale)))))`
abbrev pub row_node : Stmt
row_node =
    block 2 (Node (ident (codes "Row"))
    (named_value (codes "item") (variable (codes "i"))
    ∷ named_value (codes "square") (variable (codes "sq"))
    ∷ named_value (codes "scaled") (product (variable (codes "i")) (state_value (codes "scale") 3))
    ∷ [])) []

-- `(remember sq ((n i)) (* n n) ROW_NODE)`
abbrev pub row_cell : Stmt
row_cell =
    block 1 (Remember (ident (codes "sq")) (named_value (codes "n") (variable (codes "i")) ∷ [])
    (product (variable (codes "n")) (variable (codes "n")))) (row_node ∷ [])

-- `(fun row ((i Int)) ROW_CELL)`
abbrev pub row_function : Func
row_function = function (codes "row") (record { name = ident (codes "i"); ty = ty.Int } ∷ []) (row_cell ∷ [])

-- `(key i (call row i))`
abbrev pub keyed_row : Stmt
keyed_row =
    block 4 (Key (variable (codes "i"))) (Call 0 5 (ident (codes "row")) 0 (exprs (variable (codes "i") ∷ [])) ∷ [])

-- `(for i (get items) KEYED_ROW)`
abbrev pub all_rows : Stmt
all_rows = block 3 (For (ident (codes "i")) (state_value (codes "items") 0)) (keyed_row ∷ [])

-- `(node Total ((value (get total)) (best (get best))))`
abbrev pub total_node : Stmt
total_node =
    block 7 (Node (ident (codes "Total"))
    (named_value (codes "value") (state_value (codes "total") 1)
    ∷ named_value (codes "best") (state_value (codes "best") 2) ∷ [])) []

-- `(node Page () TOTAL_NODE (call list))`
abbrev pub page_node : Stmt
page_node =
    block 6 (Node (ident (codes "Page")) []) (total_node ∷ Call 0 8 (ident (codes "list")) 1 (exprs []) ∷ [])

-- `(fun list () ALL_ROWS)` and `(fun root () PAGE_NODE)` come after the function `row`, which `list` calls.
abbrev pub generated_functions : List Func
generated_functions =
    row_function ∷ function (codes "list") [] (all_rows ∷ []) ∷ function (codes "root") [] (page_node ∷ []) ∷ []

abbrev pub generated_program : ℕ → Program
generated_program size = record {
  header = 0;
  version = version.One;
  states = generated_states size;
  functions = generated_functions;
}
