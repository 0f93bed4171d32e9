use Rattle.std.proofs.Common.{◌≡◌, length}
use Rattle.sexp_text.specs.Forest.{joined_trees}
use Rattle.sexp_text.specs.View.{forest_view}
use Rattle.lang_ast.specs.SyntaxView.{functions_view}
use Rattle.lang_forms.specs.Sketch.{Sketch, unplaced_sketch}
use Rattle.lang_forms.specs.Forms.{functions_forms}
use Rattle.lang_write.proofs.write_program.put_functions.Given as goal

abbrev pub invariant-loop-function : goal.invariant-loop-function
invariant-loop-function l = (g : Sketch)
    → joined_trees (forest_view l.out.items) (unplaced_sketch (functions_forms (functions_view l.rest) g))
    ≡ joined_trees (forest_view l.initial.out.items) (unplaced_sketch (functions_forms (functions_view l.functions) g))

abbrev pub decreases-loop-function : goal.decreases-loop-function
decreases-loop-function l = length l.rest
