use Rattle.std.proofs.Common.{◌≡◌, ◌+◌, ◌*◌, max, drop}
use denote.Param.Weighed.{most}
use Rattle.lang_ast.specs.SyntaxView.{stmts_view}
use Rattle.lang_ast.proofs.syntax.Statement.TheLaws.{the_size}
use Rattle.lang_checks.specs.FaultOrder.{least_fault_from}
use Rattle.lang_checks.specs.Statements.{stmts_faults}
use Rattle.lang_checks.specs.Views.{statement_context_view}
use Rattle.lang_checks.proofs.statement.+faults.Given as goal

abbrev pub invariant-check_statements-loop-s : goal.invariant-check_statements-loop-s
invariant-check_statements-loop-s l = record {
  scope : l.scope ≡ l.initial.scope;
  least : least_fault_from l.least
      (stmts_faults (statement_context_view l.around) l.initial.scope (stmts_view (drop l.s-index l.body)))
      ≡ least_fault_from l.initial.least
      (stmts_faults (statement_context_view l.around) l.initial.scope (stmts_view l.body));
}

abbrev pub decreases-check_statement : goal.decreases-check_statement
decreases-check_statement l = 3 * the_size l.s.now

abbrev pub decreases-check_if : goal.decreases-check_if
decreases-check_if l = 3 * max (most the_size l.then_branch.now) (most the_size l.else_branch.now) + 2

abbrev pub decreases-check_block : goal.decreases-check_block
decreases-check_block l = 3 * most the_size l.body.now + 2

abbrev pub decreases-check_statements : goal.decreases-check_statements
decreases-check_statements l = 3 * most the_size l.body.now + 1
