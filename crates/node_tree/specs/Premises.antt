-- Trusted: what two trees need so that the calls turn the old one into the new one.
use Rattle.std.specs.Prelude.{◌≡◌, ℕ, List, [], ◌∷◌, map, false, Option, Some, None}
use Rattle.rt_groups.specs.GroupForest.{Attribute}
use Rattle.rt_groups.specs.Nodes.{Nodes, Branch}
use Rattle.rt_groups.specs.Nodes as nodes
use Rattle.node_tree.specs.NodeTrees.{TreeNode, node_list, tree_at_root}
use Rattle.node_tree.specs.Calls.{has_attribute, tree_after_calls, AllMayCome}
use Rattle.node_tree.specs.Placing.{lists_number, numbered_node, children_since, ops}

-- No two nodes of the list have one number.
abbrev pub HaveDistinctNumbers : List TreeNode → Type 0
HaveDistinctNumbers [] = Unit {0}
HaveDistinctNumbers (n ∷ ns) = (lists_number n.number ns ≡ false) × HaveDistinctNumbers ns

-- No two attributes of the list have one name.
abbrev pub HaveDistinctNames : List Attribute → Type 0
HaveDistinctNames [] = Unit {0}
HaveDistinctNames (a ∷ rest) = (has_attribute a.name rest ≡ false) × HaveDistinctNames rest

abbrev pub names_of : List Attribute → List (List ℕ)
names_of attributes = map (λ a. a.name) attributes

-- An old node and the new node that keeps its number have one kind and the same attribute names in order.
abbrev pub KeepsShape : Option TreeNode → List ℕ → List Attribute → Type 0
KeepsShape None kind attributes = Unit {0}
KeepsShape (Some old) kind attributes = (old.kind ≡ kind) × (names_of old.attributes ≡ names_of attributes)

-- At every level of a tree siblings have distinct numbers.
abbrev pub AllDistinct : Nodes → Type 0
AllDistinct nodes.None = Unit {0}
AllDistinct (Branch number kind attributes children rest) =
    (lists_number number (node_list rest) ≡ false) × AllDistinct children × AllDistinct rest

-- The children of a node, if there is one, have distinct numbers at every level.
abbrev pub ChildrenAreDistinct : Option TreeNode → Type 0
ChildrenAreDistinct None = Unit {0}
ChildrenAreDistinct (Some t) = AllDistinct t.children

-- At every level the attributes of a new node have distinct names, and a kept node keeps its shape.
abbrev pub KeepShapes : List TreeNode → Nodes → Type 0
KeepShapes old nodes.None = Unit {0}
KeepShapes old (Branch number kind attributes children rest) =
    KeepsShape (numbered_node number old) kind attributes
    × HaveDistinctNames attributes
    × KeepShapes (children_since (numbered_node number old)) children
    × KeepShapes old rest

-- The new tree can follow the old one.
pub record CanFollow (old new : Nodes) : Type 0 where
  pub old_numbers : AllDistinct old
  pub new_numbers : AllDistinct new
  pub shapes : KeepShapes (node_list old) new

-- If the new tree can follow the old one, the calls between them turn the old tree into the new one, and each call may
-- come.
abbrev pub OpsTurnTheOldTreeIntoTheNew : Type 0
OpsTurnTheOldTreeIntoTheNew =
    (old new : Nodes) → CanFollow old new →
    (tree_after_calls (tree_at_root old) (ops old new) ≡ tree_at_root new) × AllMayCome (tree_at_root old) (ops old new)

-- There is no call between a tree and itself.
abbrev pub UnchangedTreeNeedsNoCalls : Type 0
UnchangedTreeNeedsNoCalls = (tree : Nodes) → AllDistinct tree → ops tree tree ≡ []
