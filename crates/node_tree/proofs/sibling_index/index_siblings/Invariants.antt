use Rattle.std.proofs.Common.{◌≡◌, ℕ, drop}
use Rattle.std.specs.Ordering.{nat_cmp}
use Rattle.std.specs.BTreeMap.{get}
use Rattle.node_tree.specs.SiblingLists.{last_index, index_in}
use Rattle.node_tree.proofs.sibling_index.index_siblings.Given as goal

abbrev pub invariant-loop-index : goal.invariant-loop-index
invariant-loop-index l = (number : ℕ)
    → last_index number l.index (get nat_cmp l.indexes number) (drop l.index l.siblings) ≡ index_in number l.siblings
