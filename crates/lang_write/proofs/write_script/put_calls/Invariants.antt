use Rattle.std.proofs.Common.{◌≡◌, length}
use Rattle.sexp_text.specs.Forest.{joined_trees}
use Rattle.sexp_text.specs.View.{forest_view}
use Rattle.lang_forms.specs.Sketch.{unplaced_sketch}
use Rattle.lang_forms.specs.Forms.{calls_forms}
use Rattle.lang_write.proofs.write_script.put_calls.Given as goal

abbrev pub invariant-loop-call : goal.invariant-loop-call
invariant-loop-call l = joined_trees (forest_view l.out.items) (unplaced_sketch (calls_forms l.rest))
    ≡ joined_trees (forest_view l.initial.out.items) (unplaced_sketch (calls_forms l.calls))

abbrev pub decreases-loop-call : goal.decreases-loop-call
decreases-loop-call l = length l.rest
