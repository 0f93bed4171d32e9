use Rattle.std.proofs.Common.{◌≡◌, ◌+◌, ◌*◌, drop}
use Rattle.sexp_text.specs.Forest.{joined_trees}
use Rattle.sexp_text.specs.View.{forest_view}
use Rattle.lang_ast.specs.SyntaxView.{exprs_view}
use Rattle.lang_ast.specs.declared.syntax.Expression.{size-Expression}
use Rattle.lang_forms.specs.Sketch.{unplaced_sketch}
use Rattle.lang_forms.specs.Forms.{exprs_forms}
use denote.Param.Weighed.{most}
use Rattle.lang_write.proofs.write_expressions.+expressions.Given as goal

abbrev pub invariant-put_exprs-loop-expr : goal.invariant-put_exprs-loop-expr
invariant-put_exprs-loop-expr l = joined_trees (forest_view l.out.items)
    (unplaced_sketch (exprs_forms (exprs_view (drop l.expr-index l.exprs))))
    ≡ joined_trees (forest_view l.initial.out.items) (unplaced_sketch (exprs_forms (exprs_view l.exprs)))

abbrev pub decreases-put_expr : goal.decreases-put_expr
decreases-put_expr l = 2 * size-Expression l.expr.now

abbrev pub decreases-put_exprs : goal.decreases-put_exprs
decreases-put_exprs l = 2 * most size-Expression l.exprs.now + 1
