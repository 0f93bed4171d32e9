-- Trusted: the calls on an applier, when each may come, and the tree after each.
use Rattle.std.specs.Prelude.{ℕ, ◌+◌, ◌≤◌, ◌<◌, List, [], ◌∷◌, ◌++◌, map, length, take, drop, slice_get, Bool, false, Option, Some, None, if◌then◌else◌, IsTrue, ◌≡◌}
use Rattle.std.specs.List.{insert, list_any}
use Rattle.std.specs.Str.{bytes_eq}
use Rattle.std.specs.Option.{option_map}
use Rattle.rt_values.specs.declared.value.Value.{Value}
use Rattle.rt_groups.specs.GroupForest.{Attribute}
use Rattle.rt_groups.specs.Nodes.{Nodes}
use Rattle.rt_groups.specs.Nodes as nodes
use Rattle.rt_groups.specs.declared.groups.Attribute.{Attribute as AttributeData}
use Rattle.gap_buffer.specs.Buffer.{list_after_move}
use Rattle.node_tree.specs.declared.ops.NewNode.{NewNode}
use Rattle.node_tree.specs.declared.ops.Op.{Op}
use Rattle.node_tree.specs.declared.ops.Op.TheVariants as op
use Rattle.node_tree.specs.NodeTrees.{TreeNode, tree_node, node_list, nodes_of, OpenNode, CursorTree}

abbrev pub attribute_of : AttributeData → Attribute
attribute_of a = record { name = a.name; value = a.value }

-- An inserted node, which has no children.
abbrev pub inserted_node : NewNode → TreeNode
inserted_node node = tree_node node.number node.kind (map attribute_of node.attributes) nodes.None

-- The attributes with another value of the first attribute with this name.
abbrev pub attributes_after_set : List ℕ → Value → List Attribute → List Attribute
attributes_after_set name value [] = []
attributes_after_set name value (a ∷ rest) =
    if bytes_eq a.name name
    then record { name = a.name; value = value } ∷ rest
    else a ∷ attributes_after_set name value rest

-- Whether there is an attribute with this name.
abbrev pub has_attribute : List ℕ → List Attribute → Bool
has_attribute name attributes = list_any (λ a. bytes_eq a.name name) attributes

-- A node that is opened between its siblings.
abbrev pub opened_node : List TreeNode → TreeNode → List TreeNode → OpenNode
opened_node before n after =
    record { before = before; number = n.number; kind = n.kind; attributes = n.attributes; after = after }

-- The tree after `down`: the node at the index is open.
abbrev pub tree_after_down : List TreeNode → List TreeNode → CursorTree → CursorTree
tree_after_down before [] t = t
tree_after_down before (n ∷ after) t = record {
  children = node_list n.children;
  open_nodes = opened_node before n after ∷ t.open_nodes;
}

-- The tree after `up`: the current node is closed again.
abbrev pub tree_after_up : List TreeNode → List OpenNode → CursorTree
tree_after_up children [] = record { children = children; open_nodes = [] }
tree_after_up children (o ∷ open_nodes) = record {
  children = o.before ++ (tree_node o.number o.kind o.attributes (nodes_of children) ∷ o.after);
  open_nodes = open_nodes;
}

-- The open nodes after an attribute of the current node is set.
abbrev pub open_after_set : List ℕ → Value → List OpenNode → List OpenNode
open_after_set name value [] = []
open_after_set name value (o ∷ open_nodes) =
    record o { attributes = attributes_after_set name value o.attributes } ∷ open_nodes

-- The tree with other children of the current node.
abbrev pub with_children : List TreeNode → CursorTree → CursorTree
with_children children t = record { children = children; open_nodes = t.open_nodes }

-- The tree after a call.
abbrev pub tree_after : Op → CursorTree → CursorTree
tree_after (op.Down index) t = tree_after_down (take index t.children) (drop index t.children) t
tree_after op.Up t = tree_after_up t.children t.open_nodes
tree_after (op.InsertTopDown index node) t = with_children (insert t.children index (inserted_node node)) t
tree_after (op.InsertBottomUp index node) t = t
tree_after (op.Remove index count) t = with_children (take index t.children ++ drop (index + count) t.children) t
tree_after (op.Move from to count) t = with_children (list_after_move from to count t.children) t
tree_after (op.Set name value) t = record { children = t.children; open_nodes = open_after_set name value t.open_nodes }
tree_after op.Clear t = record { children = []; open_nodes = [] }

-- The tree after calls in order.
abbrev pub tree_after_calls : CursorTree → List Op → CursorTree
tree_after_calls t [] = t
tree_after_calls t (call ∷ calls) = tree_after_calls (tree_after call t) calls

-- Whether the current node is not the unseen root and has an attribute with this name.
abbrev pub has_open_attribute : List ℕ → List OpenNode → Bool
has_open_attribute name [] = false
has_open_attribute name (o ∷ open_nodes) = has_attribute name o.attributes

-- A node that was found is the inserted one.
abbrev pub IsInserted : NewNode → Option TreeNode → Type 0
IsInserted node None = ⊥
IsInserted node (Some n) =
    (n.number ≡ node.number) × (n.kind ≡ node.kind) × (n.attributes ≡ map attribute_of node.attributes)

-- A call may come: its indexes are those of children of the current node, or the end for an insert and for the target
-- of a move. `up` needs a current node that is not the unseen root, and `set` needs an attribute of that node.
abbrev pub MayCome : Op → CursorTree → Type 0
MayCome (op.Down index) t = index < length t.children
MayCome op.Up t = 0 < length t.open_nodes
MayCome (op.InsertTopDown index node) t = index ≤ length t.children
MayCome (op.InsertBottomUp index node) t = IsInserted node (slice_get t.children index)
MayCome (op.Remove index count) t = index + count ≤ length t.children
MayCome (op.Move from to count) t = (from + count ≤ length t.children) × (to ≤ length t.children)
MayCome (op.Set name value) t = IsTrue (has_open_attribute name t.open_nodes)
MayCome op.Clear t = Unit {0}

-- Each call may come at the tree that the earlier calls leave.
abbrev pub AllMayCome : CursorTree → List Op → Type 0
AllMayCome t [] = Unit {0}
AllMayCome t (call ∷ calls) = MayCome call t × AllMayCome (tree_after call t) calls

-- A call may come on an applier, if the applier knows its tree.
abbrev pub Allows : Option CursorTree → Op → Type 0
Allows None call = Unit {0}
Allows (Some t) call = MayCome call t

-- The known tree after a call.
abbrev pub Becomes : Option CursorTree → Option CursorTree → Op → Type 0
Becomes before now call = now ≡ option_map (tree_after call) before

-- All calls may come in order, if the applier knows its tree.
abbrev pub AllAllowed : Option CursorTree → List Op → Type 0
AllAllowed None calls = Unit {0}
AllAllowed (Some t) calls = AllMayCome t calls

-- The known tree after calls in order.
abbrev pub BecomesAfter : Option CursorTree → Option CursorTree → List Op → Type 0
BecomesAfter before now calls = now ≡ option_map (λ t. tree_after_calls t calls) before

-- The number of top-down inserts of a call.
abbrev pub inserts_of : Op → ℕ
inserts_of (op.Down index) = 0
inserts_of op.Up = 0
inserts_of (op.InsertTopDown index node) = 1
inserts_of (op.InsertBottomUp index node) = 0
inserts_of (op.Remove index count) = 0
inserts_of (op.Move from to count) = 0
inserts_of (op.Set name value) = 0
inserts_of op.Clear = 0

-- The number of top-down inserts.
abbrev pub insert_count : List Op → ℕ
insert_count [] = 0
insert_count (call ∷ calls) = inserts_of call + insert_count calls
