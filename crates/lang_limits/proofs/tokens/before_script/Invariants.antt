use Rattle.std.proofs.Common.{◌≡◌, length}
use Rattle.sexp_text.specs.View.{forest_view}
use Rattle.lang_limits.specs.LeastOffset.{least_offset_from, least}
use Rattle.lang_limits.specs.Tokens.{oversized_offsets, program_trees, script_trees}
use Rattle.lang_limits.proofs.tokens.before_script.Given as goal

abbrev pub invariant-loop-tree : goal.invariant-loop-tree
invariant-loop-tree l = record {
  program : least_offset_from l.least (oversized_offsets (program_trees (forest_view l.rest)))
      ≡ least (oversized_offsets (program_trees (forest_view l.trees)));
  script : script_trees (forest_view l.rest) ≡ script_trees (forest_view l.trees);
}

abbrev pub decreases-loop-tree : goal.decreases-loop-tree
decreases-loop-tree l = length l.rest
