use Rattle.std.proofs.Common.{◌≡◌, length}
use Rattle.sexp_text.specs.Forest.{joined_trees}
use Rattle.sexp_text.specs.View.{forest_view}
use Rattle.lang_forms.specs.Sketch.{unplaced_sketch}
use Rattle.lang_forms.specs.Forms.{scripts_forms}
use Rattle.lang_write.proofs.write_script.script_forms_of.Given as goal

abbrev pub invariant-loop-form : goal.invariant-loop-form
invariant-loop-form l = joined_trees (forest_view l.trees.items) (unplaced_sketch (scripts_forms l.rest))
    ≡ unplaced_sketch (scripts_forms l.forms)

abbrev pub decreases-loop-form : goal.decreases-loop-form
decreases-loop-form l = length l.rest
