-- The views of expressions and statements in memory, level by level.
use Rattle.std.proofs.Common.{◌≡◌, ℕ, Vec, Global, rules}
use Rattle.rt_values.specs.declared.value.Value.{Value}
use Rattle.lang_ast.specs.Terms.{Literal, Variable, Get, Apply, Call, If, Block}
use Rattle.lang_ast.specs.SyntaxView.{expr_view, exprs_view, head_view, stmt_view, stmts_view}
use Rattle.lang_ast.specs.declared.syntax.Ident.{Ident}
use Rattle.lang_ast.specs.declared.syntax.Operator.{Operator}
use Rattle.lang_ast.specs.declared.syntax.Source.{Source}
use Rattle.lang_ast.specs.declared.syntax.Head.{Head}
use Rattle.lang_ast.specs.declared.syntax.Expression.{Expression, Literal as LiteralOf, Variable as VariableOf, Get as GetOf, Apply as ApplyOf, the_lemmas}
use Rattle.lang_ast.specs.declared.syntax.Statement.{Statement, Call as CallOf, If as IfOf, Block as BlockOf, the_lemmas as stmt_lemmas}

pub view-Literal : (at : ℕ) (value : Value) → expr_view (LiteralOf at value) ≡ Literal at value
view-Literal at value = search (rules, the_lemmas)

pub view-Variable : (name : Ident) → expr_view (VariableOf name) ≡ Variable name
view-Variable name = search (rules, the_lemmas)

pub view-Get : (at : ℕ) (name : Ident) (source : Source) → expr_view (GetOf at name source) ≡ Get at name source
view-Get at name source = search (rules, the_lemmas)

pub view-Apply : (at : ℕ) (operator : Operator) (operands : Vec Expression Global)
    → expr_view (ApplyOf at operator operands) ≡ Apply at operator (exprs_view operands.items)
view-Apply at operator operands = search (rules, the_lemmas)

pub view-Call : (at site : ℕ) (name : Ident) (function : ℕ) (arguments : Vec Expression Global) →
    stmt_view (CallOf at site name function arguments) ≡ Call at site name function (exprs_view arguments.items)
view-Call at site name function arguments = search (rules, stmt_lemmas)

pub view-If : (at site : ℕ) (condition : Expression) (then_branch else_branch : Vec Statement Global) →
    stmt_view (IfOf at site condition then_branch else_branch)
    ≡ If at site (expr_view condition) (stmts_view then_branch.items) (stmts_view else_branch.items)
view-If at site condition then_branch else_branch = search (rules, stmt_lemmas)

pub view-Block : (at site : ℕ) (head : Head) (body : Vec Statement Global) →
    stmt_view (BlockOf at site head body) ≡ Block at site (head_view head) (stmts_view body.items)
view-Block at site head body = search (rules, stmt_lemmas)

-- The view of each kind of expression in memory.
pub ruleset expressions = (view-Literal, view-Variable, view-Get, view-Apply)

-- The view of each kind of statement in memory.
pub ruleset statements = (view-Call, view-If, view-Block)

-- The view of each form in memory.
pub ruleset views = (expressions, statements)
