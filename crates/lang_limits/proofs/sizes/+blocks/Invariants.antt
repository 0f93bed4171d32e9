use Rattle.std.proofs.Common.{◌≡◌, ◌+◌, ◌*◌, drop}
use denote.Param.Weighed.{most}
use Rattle.lang_ast.specs.SyntaxView.{stmts_view}
use Rattle.lang_ast.proofs.syntax.Statement.TheLaws.{the_size}
use Rattle.lang_limits.specs.LeastOffset.{least_offset_from}
use Rattle.lang_ast.specs.Sizes.{stmts_sizes}
use Rattle.lang_limits.proofs.sizes.+blocks.Given as goal

abbrev pub invariant-measure_statements-loop-s : goal.invariant-measure_statements-loop-s
invariant-measure_statements-loop-s l = least_offset_from l.least (stmts_sizes l.depth (stmts_view (drop l.s-index l.body)))
    ≡ least_offset_from l.initial.least (stmts_sizes l.depth (stmts_view l.body))

abbrev pub decreases-measure_statement : goal.decreases-measure_statement
decreases-measure_statement l = 3 * the_size l.s.now

abbrev pub decreases-measure_body : goal.decreases-measure_body
decreases-measure_body l = 3 * most the_size l.body.now + 2

abbrev pub decreases-measure_statements : goal.decreases-measure_statements
decreases-measure_statements l = 3 * most the_size l.body.now + 1
