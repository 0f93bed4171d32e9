-- Internal: the nodes among groups in preorder.
use Rattle.std.specs.Prelude.{ℕ, ◌+◌, ◌-◌, List, [], ◌∷◌, ◌++◌, map, if◌then◌else◌}
use Rattle.rt_groups.specs.declared.groups.Group.{Group}
use Rattle.rt_groups.specs.declared.groups.GroupKind.{GroupKind}
use Rattle.rt_groups.specs.declared.groups.GroupKind.TheVariants as what
use Rattle.slot_table.specs.ReaderStates.{after_deep}
use Rattle.slot_table.specs.TableGroups.{is_node_kind}
use Rattle.node_tree.specs.Calls.{attribute_of}
use Rattle.node_tree.specs.FlatNodes.{FlatNode, flat_node}

-- The number of nodes.
abbrev pub node_count : List Group → ℕ
node_count [] = 0
node_count (g ∷ gs) = (if is_node_kind g.what then 1 else 0) + node_count gs

-- For each group the number of nodes from there on.
abbrev pub later_counts : List Group → List ℕ
later_counts [] = []
later_counts (g ∷ gs) = node_count (g ∷ gs) ∷ later_counts gs

-- The node that a group is, or nothing for a group of another kind.
abbrev pub node_of_kind : ℕ → ℕ → GroupKind → List FlatNode
node_of_kind inner number (what.Call f vs) = []
node_of_kind inner number (what.Node kind attributes) = flat_node inner number kind (map attribute_of attributes) ∷ []
node_of_kind inner number (what.Key v) = []
node_of_kind inner number (what.Cell ks v) = []

-- The number of nodes inside a group of this depth, where `gs` are the groups after it.
abbrev pub inner_nodes : ℕ → List Group → ℕ
inner_nodes depth gs = node_count gs - node_count (after_deep (depth + 1) gs)

-- The nodes among the groups, each with the number of nodes inside it.
abbrev pub nodes_among : List Group → List FlatNode
nodes_among [] = []
nodes_among (g ∷ gs) = node_of_kind (inner_nodes g.depth gs) g.number g.what ++ nodes_among gs
