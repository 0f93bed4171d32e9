use Rattle.tests_play.proofs.KnownTrees.{at_first}
use Rattle.tests_play.proofs.faults.makes_rows.Goals as goal

pub frame_with-requires : goal.frame_with-requires
frame_with-requires c = at_first c.in_ok-composition.composition _ c.in_ok-composition.ensures.before c.new-tree.ensures.tree
