-- Trusted: a node with its children, and a tree of nodes with the node at which an applier is.
use Rattle.std.specs.Prelude.{ℕ, List, [], ◌∷◌}
use Rattle.rt_groups.specs.GroupForest.{Attribute}
use Rattle.rt_groups.specs.Nodes.{Nodes, None, Branch}

-- A node with its number, its kind, its attributes and its children.
pub record TreeNode : Type 0 where
  pub number : ℕ
  pub kind : List ℕ
  pub attributes : List Attribute
  pub children : Nodes

abbrev pub tree_node : ℕ → List ℕ → List Attribute → Nodes → TreeNode
tree_node number kind attributes children =
    record { number = number; kind = kind; attributes = attributes; children = children }

-- The nodes as a list.
abbrev pub node_list : Nodes → List TreeNode
node_list None = []
node_list (Branch number kind attributes children rest) = tree_node number kind attributes children ∷ node_list rest

-- The nodes of a list.
abbrev pub nodes_of : List TreeNode → Nodes
nodes_of [] = None
nodes_of (n ∷ ns) = Branch n.number n.kind n.attributes n.children (nodes_of ns)

-- A node whose children an applier edits, without these children: its siblings before it, its number, its kind, its
-- attributes, and its siblings after it.
pub record OpenNode : Type 0 where
  pub before : List TreeNode
  pub number : ℕ
  pub kind : List ℕ
  pub attributes : List Attribute
  pub after : List TreeNode

-- A tree with its current node: the children of the current node, and the open nodes from the current one up to a top
-- node. If no node is open, the current node is the unseen root, whose children are the top nodes.
pub record CursorTree : Type 0 where
  pub children : List TreeNode
  pub open_nodes : List OpenNode

-- The tree of these nodes, with the unseen root as the current node.
abbrev pub tree_at_root : Nodes → CursorTree
tree_at_root nodes = record { children = node_list nodes; open_nodes = [] }
