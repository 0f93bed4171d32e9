use Rattle.std.proofs.Common.{ap, ◌∙◌, Some, List, map}
use Rattle.node_tree.specs.NodeTrees.{OpenNode}
use Rattle.node_tree.specs.KeptNodes.{KeptValue, node_kept, open_kept}
use Rattle.node_tree.proofs.TreeSteps.{set_is}
use Rattle.node_tree.proofs.tree.NodeTreeApplier.set.Goals as goal

pub returns-clause-tree : goal.returns-clause-tree
returns-clause-tree c =
    ap (λ (l : List KeptValue). Some
    (record { children = map node_kept l; open_nodes = map open_kept c.set_attribute.new.self.open_nodes }))
    c.set_attribute.ensures.children
    ∙ ap (λ (l : List KeptValue). Some
    (record { children = map node_kept c.args.self.now.children; open_nodes = map open_kept l }))
    c.set_attribute.ensures.open_nodes
    ∙ ap (λ (l : List OpenNode). Some (record { children = map node_kept c.args.self.now.children; open_nodes = l }))
    (set_is c.args.name c.args.value c.args.self.now.open_nodes)
