use Rattle.std.proofs.Common.{◌≡◌, ◌++◌, ◌+◌, ◌*◌, max, drop}
use Rattle.lang_ast.specs.SyntaxView.{stmts_view}
use Rattle.lang_ast.specs.declared.syntax.Statement.{size-Statement}
use denote.Param.Weighed.{most}
use Rattle.trace_lines.specs.ProgramLine.{stmts_tokens}
use Rattle.trace_lines.proofs.program_line.+sites.Given as goal

abbrev pub invariant-put_stmts-loop-statement : goal.invariant-put_stmts-loop-statement
invariant-put_stmts-loop-statement l = record {
  tokens :
      l.line.tokens ++ stmts_tokens (stmts_view (drop l.statement-index l.statements))
      ≡ l.initial.line.tokens ++ stmts_tokens (stmts_view l.statements);
  before : l.line.before ≡ l.initial.line.before;
}

abbrev pub decreases-put_stmt : goal.decreases-put_stmt
decreases-put_stmt l = 3 * size-Statement l.statement.now

abbrev pub decreases-put_stmts : goal.decreases-put_stmts
decreases-put_stmts l = 3 * most size-Statement l.statements.now + 1

abbrev pub decreases-put_block : goal.decreases-put_block
decreases-put_block l = 3 * most size-Statement l.body.now + 2

abbrev pub decreases-put_branches : goal.decreases-put_branches
decreases-put_branches l = 3 * max (most size-Statement l.first.now) (most size-Statement l.second.now) + 2
