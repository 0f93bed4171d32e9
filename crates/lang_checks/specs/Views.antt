-- Internal: the views of what expressions and statements may name.
use Rattle.lang_ast.specs.SyntaxView.{functions_view}
use Rattle.lang_checks.specs.Expressions.{ExpressionScope}
use Rattle.lang_checks.specs.Statements.{StatementContext}
use Rattle.lang_checks.specs.declared.expression.ExpressionScope as look
use Rattle.lang_checks.specs.declared.statement.StatementContext as around

abbrev pub expression_scope_view : look.ExpressionScope → ExpressionScope
expression_scope_view l =
    record { states = l.states.now; scope = l.scope.now; keys = l.keys.now; calculating = l.calculating }

abbrev pub statement_context_view : around.StatementContext → StatementContext
statement_context_view p = record { states = p.states.now; functions = functions_view p.functions.now; me = p.me }
