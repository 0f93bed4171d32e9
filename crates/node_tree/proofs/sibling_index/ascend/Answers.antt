use Rattle.std.proofs.Common.{rules}
use Rattle.std.proofs.Math.Dec.{ltb}
use Rattle.std.proofs.lemmas.Fn.{always_returns_same}
use Rattle.node_tree.specs.declared.siblings.Sibling.{Sibling}
use Rattle.node_tree.proofs.SiblingIndexes.{ascend_by}
use Rattle.node_tree.proofs.sibling_index.ascend.Goals as goal

pub returns : goal.returns
returns c = ascend_by c.args.siblings.now c.is_sorted_by.result
    (c.is_sorted_by.ensures.cases (λ (a b : Sibling). ltb a.number b.number)
    (always_returns_same _ _ _ (λ a r f k. search rules)))
