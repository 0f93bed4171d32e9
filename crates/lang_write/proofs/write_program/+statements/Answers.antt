use Rattle.std.proofs.Common.{refl}
use Rattle.lang_ast.specs.SyntaxView.{head_view, stmts_view}
use Rattle.lang_forms.specs.Sketch.{unplaced_sketch}
use Rattle.lang_forms.specs.Forms.{head_forms, stmts_forms}
use Rattle.lang_write.proofs.Written.{all_there, body_put, if_put}
use Rattle.lang_write.proofs.write_program.+statements.Goals as goal

pub put_stmts-returns : goal.put_stmts-returns
put_stmts-returns t c = all_there (λ ss. unplaced_sketch (stmts_forms (stmts_view ss))) refl _ _ c.args.statements.now
    c.loop-statement.statement-index c.loop-statement-test.false c.loop-statement.invariant

pub put_if-returns : goal.put_if-returns
put_if-returns t c = λ g. if_put _ _ _ _ _ _ _ _ c.in_ok-inner.ensures c.in_ok-put_expr.ensures
    c.in_ok-put_branches.ensures c.in_ok-put_list.ensures 0 0 g

pub put_block-returns : goal.put_block-returns
put_block-returns t c = body_put (head_forms (head_view c.args.head.now)) (stmts_view c.args.body.now) _ _ _
    c.in_ok-start.ensures c.in_ok-put_body.ensures
