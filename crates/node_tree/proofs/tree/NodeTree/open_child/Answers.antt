use Rattle.std.proofs.Common.{◌<◌, length, take, drop, ap, ◌∙◌, arith, List, subst, sym}
use Rattle.node_tree.specs.KeptNodes.{KeptValue}
use Rattle.node_tree.specs.StoredTree.{StoredTree, stored_tree, stored_after_down}
use Rattle.node_tree.proofs.TreeSteps.{Opens, opens}
use Rattle.node_tree.proofs.tree.NodeTree.open_child.Goals as goal

pub join-requires : goal.join-requires
join-requires c =
    let s : StoredTree = stored_tree c.self.inside.children c.self.inside.open_nodes (length c.self.inside.spare) in
    let below : c.args.index < length s.children =
    subst (λ (t : StoredTree). c.args.index < length t.children) (sym c.self.view_is) c.requires in
    let all : Opens s c.args.index c.open_first-children.result c.open_first-children.new.list c.take_all-outer.result =
    opens s c.args.index c.split-opened.new.list c.split-opened.result c.split-after.new.list c.split-after.result
    c.take_all-before.result c.open_first-children.new.list c.open_first-children.result c.take_all-outer.result
    below c.split-opened.ensures.front c.split-opened.ensures.back c.split-after.ensures.front
    c.split-after.ensures.back c.take_all-before.ensures.all c.take_all-outer.ensures.all
    c.open_first-children.ensures.node in
    omega (arith, all.weight, c.self.invariant.0, c.self.invariant.1)

pub invariant_of-self : goal.invariant_of-self
invariant_of-self c =
    let s : StoredTree = stored_tree c.self.inside.children c.self.inside.open_nodes (length c.self.inside.spare) in
    let below : c.args.index < length s.children =
    subst (λ (t : StoredTree). c.args.index < length t.children) (sym c.self.view_is) c.requires in
    let all : Opens s c.args.index c.open_first-children.result c.open_first-children.new.list c.take_all-outer.result =
    opens s c.args.index c.split-opened.new.list c.split-opened.result c.split-after.new.list c.split-after.result
    c.take_all-before.result c.open_first-children.new.list c.open_first-children.result c.take_all-outer.result
    below c.split-opened.ensures.front c.split-opened.ensures.back c.split-after.ensures.front
    c.split-after.ensures.back c.take_all-before.ensures.all c.take_all-outer.ensures.all
    c.open_first-children.ensures.node in
    (omega (arith, all.weight, c.self.invariant.0, c.join.ensures.weight), c.self.invariant.1)

pub returns : goal.returns
returns c =
    let s : StoredTree = stored_tree c.self.inside.children c.self.inside.open_nodes (length c.self.inside.spare) in
    let below : c.args.index < length s.children =
    subst (λ (t : StoredTree). c.args.index < length t.children) (sym c.self.view_is) c.requires in
    let all : Opens s c.args.index c.open_first-children.result c.open_first-children.new.list c.take_all-outer.result =
    opens s c.args.index c.split-opened.new.list c.split-opened.result c.split-after.new.list c.split-after.result
    c.take_all-before.result c.open_first-children.new.list c.open_first-children.result c.take_all-outer.result
    below c.split-opened.ensures.front c.split-opened.ensures.back c.split-after.ensures.front
    c.split-after.ensures.back c.take_all-before.ensures.all c.take_all-outer.ensures.all
    c.open_first-children.ensures.node in
    ap (λ (l : List KeptValue). stored_tree c.open_first-children.result l s.spare) c.join.ensures.list
    ∙ all.tree
    ∙ ap (λ (t : StoredTree). stored_after_down (take c.args.index t.children) (drop c.args.index t.children) t)
    c.self.view_is
