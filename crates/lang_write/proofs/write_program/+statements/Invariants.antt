use Rattle.std.proofs.Common.{◌≡◌, ◌+◌, ◌*◌, max, drop}
use Rattle.sexp_text.specs.Forest.{joined_trees}
use Rattle.sexp_text.specs.View.{forest_view}
use Rattle.lang_ast.specs.SyntaxView.{stmts_view}
use Rattle.lang_ast.specs.declared.syntax.Statement.{size-Statement}
use Rattle.lang_forms.specs.Sketch.{unplaced_sketch}
use Rattle.lang_forms.specs.Forms.{stmts_forms}
use denote.Param.Weighed.{most}
use Rattle.lang_write.proofs.write_program.+statements.Given as goal

abbrev pub invariant-put_stmts-loop-statement : goal.invariant-put_stmts-loop-statement
invariant-put_stmts-loop-statement l = joined_trees (forest_view l.out.items)
    (unplaced_sketch (stmts_forms (stmts_view (drop l.statement-index l.statements))))
    ≡ joined_trees (forest_view l.initial.out.items) (unplaced_sketch (stmts_forms (stmts_view l.statements)))

abbrev pub decreases-put_stmt : goal.decreases-put_stmt
decreases-put_stmt l = 5 * size-Statement l.statement.now

abbrev pub decreases-put_body : goal.decreases-put_body
decreases-put_body l = 5 * most size-Statement l.body.now + 2

abbrev pub decreases-put_stmts : goal.decreases-put_stmts
decreases-put_stmts l = 5 * most size-Statement l.statements.now + 1

abbrev pub decreases-put_branches : goal.decreases-put_branches
decreases-put_branches l = 5 * max (most size-Statement l.first.now) (most size-Statement l.second.now) + 3

abbrev pub decreases-put_if : goal.decreases-put_if
decreases-put_if l = 5 * max (most size-Statement l.first.now) (most size-Statement l.second.now) + 4

abbrev pub decreases-put_block : goal.decreases-put_block
decreases-put_block l = 5 * most size-Statement l.body.now + 3
