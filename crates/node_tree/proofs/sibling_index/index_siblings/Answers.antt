use Rattle.std.specs.Ordering.{nat_cmp}
use Rattle.std.specs.BTreeMap.{get}
use Rattle.node_tree.specs.SiblingLists.{index_in}
use Rattle.node_tree.proofs.NextSiblings.{one_index}
use Rattle.node_tree.proofs.sibling_index.index_siblings.Goals as goal

pub loop-index-preserved : goal.loop-index-preserved
loop-index-preserved c = λ number.
    one_index c.args.siblings.now (record { number = 0; start = 0; end = 0 }) c.loop-index.index number
    (get nat_cmp c.loop-index.indexes number) (get nat_cmp c.insert.new.self number)
    (index_in number c.args.siblings.now)
    c.loop-index-test.true (c.in_ok-insert.ensures.updates.0 number) (c.loop-index.invariant number)
