use Rattle.std.proofs.Common.{◌≡◌, length}
use Rattle.sexp_text.specs.Forest.{joined_trees}
use Rattle.sexp_text.specs.View.{forest_view}
use Rattle.lang_forms.specs.Sketch.{unplaced_sketch}
use Rattle.lang_forms.specs.Forms.{actor_forms}
use Rattle.lang_write.proofs.write_script.put_actor_steps.Given as goal

abbrev pub invariant-loop-step : goal.invariant-loop-step
invariant-loop-step l = joined_trees (forest_view l.out.items) (unplaced_sketch (actor_forms l.rest))
    ≡ joined_trees (forest_view l.initial.out.items) (unplaced_sketch (actor_forms l.steps))

abbrev pub decreases-loop-step : goal.decreases-loop-step
decreases-loop-step l = length l.rest
