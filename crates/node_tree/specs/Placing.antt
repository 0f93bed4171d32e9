-- Trusted: the calls on an applier that turn the old tree of nodes into the new one.
use Rattle.std.specs.Prelude.{ℕ, zero, suc, ◌+◌, ◌==◌, ◌&&◌, List, [], ◌∷◌, ◌++◌, map, Bool, Option, Some, None, if◌then◌else◌}
use Rattle.std.specs.List.{filter, list_any}
use Rattle.rt_values.specs.Values.{same_value}
use Rattle.rt_groups.specs.GroupForest.{Attribute}
use Rattle.rt_groups.specs.PreorderGroups.{flat_attribute}
use Rattle.rt_groups.specs.Nodes.{Nodes, Branch}
use Rattle.rt_groups.specs.Nodes as nodes
use Rattle.node_tree.specs.declared.ops.NewNode.{NewNode}
use Rattle.node_tree.specs.declared.ops.Op.{Op}
use Rattle.node_tree.specs.declared.ops.Op.TheVariants as op
use Rattle.node_tree.specs.NodeTrees.{TreeNode, tree_node, node_list}

-- Whether a node of the list has this number.
abbrev pub lists_number : ℕ → List TreeNode → Bool
lists_number number nodes = list_any (λ n. n.number == number) nodes

-- The first node of the list with this number.
abbrev pub numbered_node : ℕ → List TreeNode → Option TreeNode
numbered_node number [] = None
numbered_node number (n ∷ ns) = if n.number == number then Some n else numbered_node number ns

-- The index of the first node of the list with this number.
abbrev pub node_index : ℕ → List TreeNode → ℕ
node_index number [] = 0
node_index number (n ∷ ns) = if n.number == number then 0 else 1 + node_index number ns

-- The list without its first node with this number.
abbrev pub nodes_without : ℕ → List TreeNode → List TreeNode
nodes_without number [] = []
nodes_without number (n ∷ ns) = if n.number == number then ns else n ∷ nodes_without number ns

-- The removals from the last node to the first, where `old` begins at the index: each node whose number is not in
-- `new`.
abbrev pub removals : ℕ → List TreeNode → List TreeNode → List Op
removals index new [] = []
removals index new (o ∷ old) =
    removals (index + 1) new old ++ (if lists_number o.number new then [] else op.Remove index 1 ∷ [])

-- The old nodes that stay.
abbrev pub staying_nodes : List TreeNode → List TreeNode → List TreeNode
staying_nodes new old = filter (λ o. lists_number o.number new) old

-- The move of a node that is `distance` after the index, if it is not at the index yet.
abbrev pub move_to : ℕ → ℕ → List Op
move_to index zero = []
move_to index (suc distance) = op.Move (index + suc distance) index 1 ∷ []

abbrev pub new_node : TreeNode → NewNode
new_node n = record { number = n.number; kind = n.kind; attributes = map flat_attribute n.attributes }

-- The inserts and moves in the order of the new nodes, where `new` begins at the index and `rest` is what the current
-- node has from this index on: an insert of a node whose number is not in `old`, and a move of a node that is after
-- the index.
abbrev pub arrangements : ℕ → List TreeNode → List TreeNode → List TreeNode → List Op
arrangements index old rest [] = []
arrangements index old rest (n ∷ new) =
    if lists_number n.number old
    then move_to index (node_index n.number rest) ++ arrangements (index + 1) old (nodes_without n.number rest) new
    else op.InsertTopDown index (new_node n) ∷ arrangements (index + 1) old rest new

-- The call that stands for a removal and the next call: the removal of the node right before, or nothing.
abbrev pub joined_removal : ℕ → ℕ → Op → Option Op
joined_removal index count (op.Remove next more) =
    if (next + 1 == index) && (more == 1) then Some (op.Remove next (count + 1)) else None
joined_removal index count _ = None

-- The call that stands for a move and the next call: the move of the node that followed the moved ones to the place
-- after them, or nothing.
abbrev pub joined_move : ℕ → ℕ → ℕ → Op → Option Op
joined_move from to count (op.Move next target more) =
    if ((next == from + count) && (target == to + count)) && (more == 1)
    then Some (op.Move from to (count + 1)) else None
joined_move from to count _ = None

-- The call that stands for two neighbouring calls, if there is one.
abbrev pub joined_call : Op → Op → Option Op
joined_call (op.Remove index count) next = joined_removal index count next
joined_call (op.Move from to count) next = joined_move from to count next
joined_call _ next = None

-- The joined call with what follows it, or the two calls as they are.
abbrev pub joined_or : Op → Op → (Op → List Op) → Option Op → List Op
joined_or call next more None = call ∷ more next
joined_or call next more (Some both) = more both

-- A call and those that follow, where neighbours are joined from the left as long as possible.
abbrev pub joined_from : List Op → Op → List Op
joined_from [] call = call ∷ []
joined_from (next ∷ calls) call = joined_or call next (joined_from calls) (joined_call call next)

abbrev pub joined_calls : List Op → List Op
joined_calls [] = []
joined_calls (call ∷ calls) = joined_from calls call

-- The calls that give the current node the new children, each with the attributes and the children that it had.
abbrev pub child_calls : List TreeNode → List TreeNode → List Op
child_calls old new = joined_calls (removals 0 new old ++ arrangements 0 old (staying_nodes new old) new)

-- A `set` for each attribute whose value differs.
abbrev pub set_calls : List Attribute → List Attribute → List Op
set_calls [] new = []
set_calls (o ∷ old) [] = []
set_calls (o ∷ old) (n ∷ new) =
    (if same_value o.value n.value then [] else op.Set n.name n.value ∷ []) ++ set_calls old new

abbrev pub sets_since : Option TreeNode → List Attribute → List Op
sets_since None attributes = []
sets_since (Some old) attributes = set_calls old.attributes attributes

abbrev pub children_since : Option TreeNode → List TreeNode
children_since None = []
children_since (Some old) = node_list old.children

-- The calls inside the child at the index, and no call if there is nothing to do inside it.
abbrev pub calls_inside : ℕ → List Op → List Op
calls_inside index [] = []
calls_inside index (call ∷ calls) = op.Down index ∷ (call ∷ calls ++ op.Up ∷ [])

-- The report that an inserted node at the index has all its children, and nothing of a kept node.
abbrev pub completion : Option TreeNode → ℕ → TreeNode → List Op
completion None index n = op.InsertBottomUp index (new_node n) ∷ []
completion (Some old) index n = []

-- The calls inside the new nodes, which begin at the index: for each node its attributes, then its children, then the
-- report of an inserted node.
abbrev pub inner_calls : ℕ → List TreeNode → Nodes → List Op
inner_calls index old nodes.None = []
inner_calls index old (Branch number kind attributes children rest) =
    let before = children_since (numbered_node number old) in
    calls_inside index
    (sets_since (numbered_node number old) attributes
    ++ (child_calls before (node_list children) ++ inner_calls 0 before children))
    ++ (completion (numbered_node number old) index (tree_node number kind attributes children)
    ++ inner_calls (index + 1) old rest)

-- The calls that turn the old children of the current node into the new ones.
abbrev pub ops_between : List TreeNode → Nodes → List Op
ops_between old new = child_calls old (node_list new) ++ inner_calls 0 old new

-- The calls that turn the old tree into the new one.
abbrev pub ops : Nodes → Nodes → List Op
ops old new = ops_between (node_list old) new
