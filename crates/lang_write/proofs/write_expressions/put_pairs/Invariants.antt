use Rattle.std.proofs.Common.{◌≡◌, length}
use Rattle.sexp_text.specs.Forest.{joined_trees}
use Rattle.sexp_text.specs.View.{forest_view}
use Rattle.lang_ast.specs.SyntaxView.{nameds_view}
use Rattle.lang_forms.specs.Sketch.{unplaced_sketch}
use Rattle.lang_forms.specs.Forms.{pairs_forms}
use Rattle.lang_write.proofs.write_expressions.put_pairs.Given as goal

abbrev pub invariant-loop-pair : goal.invariant-loop-pair
invariant-loop-pair l = joined_trees (forest_view l.out.items) (unplaced_sketch (pairs_forms (nameds_view l.rest)))
    ≡ joined_trees (forest_view l.initial.out.items) (unplaced_sketch (pairs_forms (nameds_view l.pairs)))

abbrev pub decreases-loop-pair : goal.decreases-loop-pair
decreases-loop-pair l = length l.rest
