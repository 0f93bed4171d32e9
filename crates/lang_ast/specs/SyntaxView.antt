-- Trusted: the expressions and statements that values in memory represent, without their pointers.
use Rattle.std.specs.Prelude.{List, map}
use Rattle.lang_ast.specs.Terms.{Expr, Literal, Variable, Get, Apply, Exprs, Named, Head, Node, Key, For, Let, Remember, Stmt, Call, If, Block, Stmts, Func, exprs, stmts}
use Rattle.lang_ast.specs.declared.syntax.Expression.{Expression, fold-Expression}
use Rattle.lang_ast.specs.declared.syntax.Expression.TheOpen.{Expression-F}
use Rattle.lang_ast.specs.declared.syntax.Named as named
use Rattle.lang_ast.specs.declared.syntax.Head as declared
use Rattle.lang_ast.specs.declared.syntax.Head.TheVariants as head
use Rattle.lang_ast.specs.declared.syntax.Statement.{Statement, fold-Statement}
use Rattle.lang_ast.specs.declared.syntax.Statement.TheOpen.{Statement-F}
use Rattle.lang_ast.specs.declared.syntax.Function.{Function}

-- One level of an expression.
abbrev pub expr_step : Expression-F Expr → Expr
expr_step (Expression-F.Literal at value) = Literal at value
expr_step (Expression-F.Variable name) = Variable name
expr_step (Expression-F.Get at name source) = Get at name source
expr_step (Expression-F.Apply at operator operands) = Apply at operator (exprs operands.items)

abbrev pub expr_view : Expression → Expr
expr_view = fold-Expression Expr expr_step

abbrev pub exprs_view : List Expression → Exprs
exprs_view es = exprs (map expr_view es)

abbrev pub named_view : named.Named → Named
named_view n = record { name = n.name; value = expr_view n.value }

abbrev pub nameds_view : List named.Named → List Named
nameds_view ns = map named_view ns

abbrev pub head_view : declared.Head → Head
head_view (head.Node kind attributes) = Node kind (nameds_view attributes.items)
head_view (head.Key key) = Key (expr_view key)
head_view (head.For name list) = For name (expr_view list)
head_view (head.Let name value) = Let name (expr_view value)
head_view (head.Remember name keys value) = Remember name (nameds_view keys.items) (expr_view value)

-- One level of a statement.
abbrev pub stmt_step : Statement-F Stmt → Stmt
stmt_step (Statement-F.Call at site name function arguments) = Call at site name function (exprs_view arguments.items)
stmt_step (Statement-F.If at site condition then_branch else_branch) =
    If at site (expr_view condition) (stmts then_branch.items) (stmts else_branch.items)
stmt_step (Statement-F.Block at site head body) = Block at site (head_view head) (stmts body.items)

abbrev pub stmt_view : Statement → Stmt
stmt_view = fold-Statement Stmt stmt_step

abbrev pub stmts_view : List Statement → Stmts
stmts_view ss = stmts (map stmt_view ss)

abbrev pub function_view : Function → Func
function_view f = record { at = f.at; name = f.name; parameters = f.parameters.items; body = stmts_view f.body.items }

abbrev pub functions_view : List Function → List Func
functions_view fs = map function_view fs
