-- Trusted: a tree of nodes as the list of its nodes in preorder, each with the number of nodes inside it.
use Rattle.std.specs.Prelude.{ℕ, List, [], ◌∷◌, ◌++◌, length}
use Rattle.rt_groups.specs.GroupForest.{Attribute}
use Rattle.rt_groups.specs.Nodes.{Nodes, None, Branch}

-- A node without its children, with the number of nodes inside it.
pub record FlatNode : Type 0 where
  pub inner : ℕ
  pub number : ℕ
  pub kind : List ℕ
  pub attributes : List Attribute

abbrev pub flat_node : ℕ → ℕ → List ℕ → List Attribute → FlatNode
flat_node inner number kind attributes =
    record { inner = inner; number = number; kind = kind; attributes = attributes }

-- The nodes of a tree in preorder.
abbrev pub flat_nodes : Nodes → List FlatNode
flat_nodes None = []
flat_nodes (Branch number kind attributes children rest) =
    flat_node (length (flat_nodes children)) number kind attributes ∷ (flat_nodes children ++ flat_nodes rest)
