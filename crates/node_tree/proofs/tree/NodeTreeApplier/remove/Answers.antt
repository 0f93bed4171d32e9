use Rattle.std.proofs.Common.{ap, ◌∙◌, Some, List, map}
use Rattle.node_tree.specs.NodeTrees.{TreeNode}
use Rattle.node_tree.specs.KeptNodes.{KeptValue, node_kept, open_kept}
use Rattle.std.proofs.Common.{◌+◌, ◌++◌, take, drop}
use Rattle.node_tree.proofs.TreeSteps.{remove_is}
use Rattle.node_tree.proofs.tree.NodeTreeApplier.remove.Goals as goal

pub returns-clause-tree : goal.returns-clause-tree
returns-clause-tree c =
    ap (λ (l : List KeptValue). Some
    (record { children = map node_kept l; open_nodes = map open_kept c.remove_children.new.self.open_nodes }))
    c.remove_children.ensures.children
    ∙ ap (λ (l : List TreeNode). Some
    (record { children = l; open_nodes = map open_kept c.remove_children.new.self.open_nodes }))
    (remove_is c.args.self.now.children c.args.index (c.args.index + c.args.count))
    ∙ ap (λ (l : List KeptValue). Some
    (record {
      children = take c.args.index (map node_kept c.args.self.now.children) ++ drop
          (c.args.index + c.args.count) (map node_kept c.args.self.now.children);
      open_nodes = map open_kept l;
    }))
    c.remove_children.ensures.open_nodes
