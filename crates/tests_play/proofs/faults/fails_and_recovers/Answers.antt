use Rattle.std.proofs.Common.{ap, ◌∙◌, Some}
use Rattle.node_tree.specs.StoredTree.{cursor_tree}
use Rattle.tests_play.proofs.KnownTrees.{at_first}
use Rattle.tests_play.proofs.faults.fails_and_recovers.Goals as goal

pub recovers-requires : goal.recovers-requires
recovers-requires c = at_first c.in_ok-composition.composition _ c.in_ok-composition.ensures.before
    (ap (λ t. Some (cursor_tree t)) c.new-applier.ensures.inner ∙ c.new-2.ensures.tree)
