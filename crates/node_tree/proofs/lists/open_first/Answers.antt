use Rattle.std.proofs.Common.{◌∙◌}
use Rattle.node_tree.proofs.FirstNodes.{opened_first}
use Rattle.node_tree.proofs.lists.open_first.Goals as goal

pub returns : goal.returns
returns c = record {
  node = λ k more whole.
      let first = opened_first c.args.list.now more c.take_all-children.new.list c.args.before c.args.after
      c.node.inside.children c.node.inside.before c.node.inside.after c.in-Some.node.now k
      c.node.inside.number c.node.inside.kind c.node.inside.attributes c.in-Some.ensures.value whole c.node.view_is
      c.take_all-children.ensures.left in
      (first.0, c.take_all-children.ensures.all ∙ first.1);
}
