-- Trusted: the node tree of a group forest. Calls, keys and cells are replaced by the nodes inside them.
use Rattle.std.specs.Prelude.{ℕ, List}
use Rattle.rt_groups.specs.GroupForest.{GroupForest, End, Read, Group, GroupKind, Call, Node, Key, Cell, Attribute}

-- Nodes in order, each with its number, its children and its later siblings.
pub data Nodes : Type 0 where
  None : Nodes
  Branch : (number : ℕ) → (kind : List ℕ) → (attributes : List Attribute) → (children rest : Nodes) → Nodes

abbrev pub joined_nodes : Nodes → Nodes → Nodes
joined_nodes None t = t
joined_nodes (Branch n kind attributes children rest) t = Branch n kind attributes children (joined_nodes rest t)

-- The nodes that a group makes: a node with the nodes inside it as children, or only the nodes inside another group.
abbrev pub group_nodes : GroupKind → ℕ → Nodes → Nodes
group_nodes (Call f vs) n inside = inside
group_nodes (Node kind attributes) n inside = Branch n kind attributes inside None
group_nodes (Key v) n inside = inside
group_nodes (Cell ks v) n inside = inside

abbrev pub nodes : GroupForest → Nodes
nodes End = None
nodes (Read x rest) = nodes rest
nodes (Group site number what inside rest) = joined_nodes (group_nodes what number (nodes inside)) (nodes rest)
