use Rattle.std.proofs.Common.{ap, ◌∙◌, Some, List, map}
use Rattle.node_tree.specs.NodeTrees.{TreeNode}
use Rattle.node_tree.specs.KeptNodes.{KeptValue, node_kept, open_kept}
use Rattle.std.specs.List.{insert}
use Rattle.node_tree.specs.Calls.{inserted_node}
use Rattle.node_tree.specs.StoredTree.{inserted_value}
use Rattle.node_tree.proofs.TreeSteps.{insert_is}
use Rattle.node_tree.proofs.tree.NodeTreeApplier.insert_top_down.Goals as goal

pub returns-clause-tree : goal.returns-clause-tree
returns-clause-tree c =
    ap (λ (l : List KeptValue). Some
    (record { children = map node_kept l; open_nodes = map open_kept c.insert_child.new.self.open_nodes }))
    c.insert_child.ensures.children
    ∙ ap (λ (l : List TreeNode). Some
    (record { children = l; open_nodes = map open_kept c.insert_child.new.self.open_nodes }))
    (insert_is c.args.self.now.children c.args.index (inserted_value c.args.node))
    ∙ ap (λ (l : List KeptValue). Some
    (record {
      children = insert (map node_kept c.args.self.now.children) c.args.index (inserted_node c.args.node);
      open_nodes = map open_kept l;
    })) c.insert_child.ensures.open_nodes
