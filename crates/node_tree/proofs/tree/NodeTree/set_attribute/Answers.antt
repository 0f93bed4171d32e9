use Rattle.std.proofs.Common.{◌<◌, arith, length, subst, sym}
use Rattle.node_tree.specs.StoredTree.{StoredTree}
use Rattle.node_tree.proofs.TreeSteps.{set_weight}
use Rattle.node_tree.proofs.tree.NodeTree.set_attribute.Goals as goal

pub invariant_of-self : goal.invariant_of-self
invariant_of-self c =
    let some : 0 < length c.self.inside.open_nodes =
    subst (λ (t : StoredTree). 0 < length t.open_nodes) (sym c.self.view_is) c.requires in
    let same = set_weight c.self.inside.open_nodes c.set_in_first.new.list c.args.name c.args.value some
    c.set_in_first.ensures in
    (omega (arith, same.1, c.self.invariant.0), c.self.invariant.1)
