use Rattle.std.proofs.Common.{ap, ◌∙◌, Some, List, map}
use Rattle.node_tree.specs.NodeTrees.{TreeNode}
use Rattle.node_tree.specs.KeptNodes.{KeptValue, node_kept, open_kept}
use Rattle.gap_buffer.specs.Buffer.{list_after_move}
use Rattle.node_tree.proofs.TreeSteps.{move_is}
use Rattle.node_tree.proofs.tree.NodeTreeApplier.move_range.Goals as goal

pub returns-clause-tree : goal.returns-clause-tree
returns-clause-tree c =
    ap (λ (l : List KeptValue). Some
    (record { children = map node_kept l; open_nodes = map open_kept c.move_children.new.self.open_nodes }))
    c.move_children.ensures.children
    ∙ ap (λ (l : List TreeNode). Some
    (record { children = l; open_nodes = map open_kept c.move_children.new.self.open_nodes }))
    (move_is c.args.self.now.children c.args.from c.args.to c.args.count)
    ∙ ap (λ (l : List KeptValue). Some
    (record {
      children = list_after_move c.args.from c.args.to c.args.count
          (map node_kept c.args.self.now.children);
      open_nodes = map open_kept l;
    })) c.move_children.ensures.open_nodes
