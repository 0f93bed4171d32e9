use Rattle.std.proofs.Common.{◌≡◌, length}
use Rattle.sexp_text.specs.Forest.{joined_trees}
use Rattle.sexp_text.specs.View.{forest_view}
use Rattle.lang_forms.specs.Sketch.{Sketch, unplaced_sketch}
use Rattle.lang_forms.specs.Forms.{states_forms}
use Rattle.lang_write.proofs.write_program.put_states.Given as goal

abbrev pub invariant-loop-state : goal.invariant-loop-state
invariant-loop-state l = (g : Sketch)
    → joined_trees (forest_view l.out.items) (unplaced_sketch (states_forms l.rest g))
    ≡ joined_trees (forest_view l.initial.out.items) (unplaced_sketch (states_forms l.states g))

abbrev pub decreases-loop-state : goal.decreases-loop-state
decreases-loop-state l = length l.rest
