use Rattle.std.proofs.Common.{◌∙◌}
use Rattle.node_tree.proofs.FirstNodes.{closed_first}
use Rattle.node_tree.proofs.lists.close_first.Goals as goal

pub returns : goal.returns
returns c = record {
  node = λ k more whole.
      let first = closed_first c.args.list.now more c.args.children c.take_all-before.new.list c.take_all-after.new.list
      c.node.inside.children c.node.inside.before c.node.inside.after c.in-Some.node.now k
      c.node.inside.number c.node.inside.kind c.node.inside.attributes c.in-Some.ensures.value whole c.node.view_is
      c.take_all-before.ensures.left c.take_all-after.ensures.left in
      (first.0, c.take_all-before.ensures.all ∙ first.1, c.take_all-after.ensures.all ∙ first.2);
}
