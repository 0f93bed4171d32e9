use Rattle.std.proofs.Common.{refl}
use Rattle.lang_ast.specs.SyntaxView.{exprs_view}
use Rattle.lang_forms.specs.Sketch.{unplaced_sketch}
use Rattle.lang_forms.specs.Forms.{exprs_forms}
use Rattle.lang_write.proofs.Written.{all_there}
use Rattle.lang_write.proofs.write_expressions.+expressions.Goals as goal

pub put_exprs-returns : goal.put_exprs-returns
put_exprs-returns t c = all_there (λ es. unplaced_sketch (exprs_forms (exprs_view es))) refl _ _ c.args.exprs.now
    c.loop-expr.expr-index c.loop-expr-test.false c.loop-expr.invariant
