use Rattle.std.proofs.Common.{◌≡◌, length}
use Rattle.sexp_text.specs.Forest.{joined_trees}
use Rattle.sexp_text.specs.View.{forest_view}
use Rattle.lang_forms.specs.Sketch.{unplaced_sketch}
use Rattle.lang_forms.specs.Forms.{parameters_forms}
use Rattle.lang_write.proofs.write_program.put_parameters.Given as goal

abbrev pub invariant-loop-parameter : goal.invariant-loop-parameter
invariant-loop-parameter l = joined_trees (forest_view l.out.items) (unplaced_sketch (parameters_forms l.rest))
    ≡ joined_trees (forest_view l.initial.out.items) (unplaced_sketch (parameters_forms l.parameters))

abbrev pub decreases-loop-parameter : goal.decreases-loop-parameter
decreases-loop-parameter l = length l.rest
