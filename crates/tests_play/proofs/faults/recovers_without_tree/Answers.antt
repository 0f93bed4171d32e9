use Rattle.std.proofs.Common.{refl}
use Rattle.tests_play.proofs.KnownTrees.{at_first_unknown}
use Rattle.tests_play.proofs.faults.recovers_without_tree.Goals as goal

pub recovers-requires : goal.recovers-requires
recovers-requires c = at_first_unknown c.in_ok-composition.composition _ c.in_ok-composition.ensures.before refl
