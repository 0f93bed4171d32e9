use Rattle.std.proofs.Common.{◌<◌, ◌++◌, length, ap, ◌∙◌, arith, List, subst, sym}
use Rattle.node_tree.specs.KeptNodes.{KeptValue}
use Rattle.node_tree.specs.StoredTree.{StoredTree, stored_tree, stored_after_up}
use Rattle.node_tree.proofs.TreeSteps.{Closes, closes}
use Rattle.node_tree.proofs.tree.NodeTree.close_current.Goals as goal

pub join-requires : goal.join-requires
join-requires c =
    let s : StoredTree = stored_tree c.self.inside.children c.self.inside.open_nodes (length c.self.inside.spare) in
    let some : 0 < length s.open_nodes =
    subst (λ (t : StoredTree). 0 < length t.open_nodes) (sym c.self.view_is) c.requires in
    let all : Closes s c.close_first-before.result.0 c.close_first-before.new.list c.close_first-before.result.1
    c.replace-closed.new.dest =
    closes s c.replace-closed.result c.replace-closed.new.dest c.take_all-children.result c.close_first-before.result.0
    c.close_first-before.new.list c.close_first-before.result.1
    some (c.replace-closed.ensures.value ∙ c.split-outer.ensures.front) (c.replace-closed.ensures.after
    ∙ c.split-outer.ensures.back) c.take_all-children.ensures.all c.close_first-before.ensures.node in
    omega (arith, all.weight, c.self.invariant.0, c.self.invariant.1)

pub join-requires-2 : goal.join-requires-2
join-requires-2 c =
    let s : StoredTree = stored_tree c.self.inside.children c.self.inside.open_nodes (length c.self.inside.spare) in
    let some : 0 < length s.open_nodes =
    subst (λ (t : StoredTree). 0 < length t.open_nodes) (sym c.self.view_is) c.requires in
    let all : Closes s c.close_first-before.result.0 c.close_first-before.new.list c.close_first-before.result.1
    c.replace-closed.new.dest =
    closes s c.replace-closed.result c.replace-closed.new.dest c.take_all-children.result c.close_first-before.result.0
    c.close_first-before.new.list c.close_first-before.result.1
    some (c.replace-closed.ensures.value ∙ c.split-outer.ensures.front) (c.replace-closed.ensures.after
    ∙ c.split-outer.ensures.back) c.take_all-children.ensures.all c.close_first-before.ensures.node in
    omega (arith, all.weight, c.self.invariant.0, c.self.invariant.1, c.join.ensures.weight)

pub invariant_of-self : goal.invariant_of-self
invariant_of-self c =
    let s : StoredTree = stored_tree c.self.inside.children c.self.inside.open_nodes (length c.self.inside.spare) in
    let some : 0 < length s.open_nodes =
    subst (λ (t : StoredTree). 0 < length t.open_nodes) (sym c.self.view_is) c.requires in
    let all : Closes s c.close_first-before.result.0 c.close_first-before.new.list c.close_first-before.result.1
    c.replace-closed.new.dest =
    closes s c.replace-closed.result c.replace-closed.new.dest c.take_all-children.result c.close_first-before.result.0
    c.close_first-before.new.list c.close_first-before.result.1
    some (c.replace-closed.ensures.value ∙ c.split-outer.ensures.front) (c.replace-closed.ensures.after
    ∙ c.split-outer.ensures.back) c.take_all-children.ensures.all c.close_first-before.ensures.node in
    (omega (arith, all.weight, c.self.invariant.0, c.join.ensures.weight, c.join-2.ensures.weight), c.self.invariant.1)

pub returns : goal.returns
returns c =
    let s : StoredTree = stored_tree c.self.inside.children c.self.inside.open_nodes (length c.self.inside.spare) in
    let some : 0 < length s.open_nodes =
    subst (λ (t : StoredTree). 0 < length t.open_nodes) (sym c.self.view_is) c.requires in
    let all : Closes s c.close_first-before.result.0 c.close_first-before.new.list c.close_first-before.result.1
    c.replace-closed.new.dest =
    closes s c.replace-closed.result c.replace-closed.new.dest c.take_all-children.result c.close_first-before.result.0
    c.close_first-before.new.list c.close_first-before.result.1
    some (c.replace-closed.ensures.value ∙ c.split-outer.ensures.front) (c.replace-closed.ensures.after
    ∙ c.split-outer.ensures.back) c.take_all-children.ensures.all c.close_first-before.ensures.node in
    ap (λ (l : List KeptValue). stored_tree l c.replace-closed.new.dest s.spare)
    (c.join-2.ensures.list ∙ ap (λ (l : List KeptValue). l ++ c.close_first-before.result.1) c.join.ensures.list)
    ∙ all.tree
    ∙ ap (λ (t : StoredTree). stored_after_up t.children t.open_nodes t.spare) c.self.view_is
