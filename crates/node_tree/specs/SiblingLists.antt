-- Internal: the siblings of a list of nodes in preorder, their numbers, and those that are left.
use Rattle.std.specs.Prelude.{◌≡◌, ℕ, zero, suc, ◌+◌, ◌<◌, ◌==◌, Bool, false, List, [], ◌∷◌, ◌++◌, ◌-◌, map, length, min, take, drop, slice_get, slice_set, slice_index_or, Option, Some, None, if◌then◌else◌}
use Rattle.std.specs.Option.{is_some}
use Rattle.std.specs.List.{AllAdjacentBelow}
use Rattle.rt_groups.specs.Nodes.{Nodes, Branch}
use Rattle.rt_groups.specs.Nodes as nodes
use Rattle.rt_groups.specs.PreorderGroups.{flat_attribute}
use Rattle.node_tree.specs.declared.ops.NewNode.{NewNode}
use Rattle.node_tree.specs.declared.siblings.Sibling.{Sibling}
use Rattle.node_tree.specs.declared.ops.Op.{Op}
use Rattle.node_tree.specs.declared.ops.Op.TheVariants as op
use Rattle.node_tree.specs.NodeTrees.{TreeNode, tree_node}
use Rattle.node_tree.specs.FlatNodes.{FlatNode, flat_node, flat_nodes}
use Rattle.node_tree.specs.Counting.{total}
use Rattle.node_tree.specs.Placing.{move_to, joined_call, joined_or, joined_calls}

-- The siblings of a list of nodes that begins at the index `at`, after nodes that are skipped.
abbrev pub sibling_list : ℕ → ℕ → List FlatNode → List Sibling
sibling_list skipped at [] = []
sibling_list zero at (x ∷ xs) =
    record { number = x.number; start = at; end = at + 1 + min x.inner (length xs) } ∷ sibling_list x.inner (at + 1) xs
sibling_list (suc skipped) at (x ∷ xs) = sibling_list skipped (at + 1) xs

-- The top nodes of a tree as siblings, where the list of its nodes begins at the index `at`.
abbrev pub siblings_of : ℕ → Nodes → List Sibling
siblings_of at nodes.None = []
siblings_of at (Branch number kind attributes children rest) =
    record { number = number; start = at; end = at + 1 + length (flat_nodes children) }
    ∷ siblings_of (at + 1 + length (flat_nodes children)) rest

-- The index of the last sibling with this number, where the list begins at the index `at`, else `last`.
abbrev pub last_index : ℕ → ℕ → Option ℕ → List Sibling → Option ℕ
last_index number at last [] = last
last_index number at last (s ∷ ss) = last_index number (at + 1) (if s.number == number then Some at else last) ss

-- The index of the last sibling with this number.
abbrev pub index_in : ℕ → List Sibling → Option ℕ
index_in number siblings = last_index number 0 None siblings

-- Whether there is a sibling, and it has this number.
abbrev pub is_numbered : ℕ → Option Sibling → Bool
is_numbered number None = false
is_numbered number (Some s) = s.number == number

-- Each sibling has a smaller number than the next one.
abbrev pub Ascend : List Sibling → Type 0
Ascend siblings = AllAdjacentBelow (λ a b. a.number < b.number) siblings (length siblings)

-- For each old sibling 1 if a new one has its number, else 0.
abbrev pub kept_counts : List Sibling → List Sibling → List ℕ
kept_counts new old = map (λ s. if is_some (index_in s.number new) then 1 else 0) old

-- Joined calls with one more call, which is joined to the last one if it can be.
abbrev pub joined_push : List Op → Op → List Op
joined_push [] call = call ∷ []
joined_push (last ∷ []) call = joined_or last call (λ both. both ∷ []) (joined_call last call)
joined_push (first ∷ (next ∷ calls)) call = first ∷ joined_push (next ∷ calls) call

-- The removals of the old siblings whose count is 0, from the last to the first.
abbrev pub removals_at : ℕ → List ℕ → List Op
removals_at index [] = []
removals_at index (c ∷ cs) = removals_at (index + 1) cs ++ (if c == 0 then op.Remove index 1 ∷ [] else [])

-- The nodes whose count is not 0.
abbrev pub counted_nodes : List ℕ → List TreeNode → List TreeNode
counted_nodes [] ns = []
counted_nodes (c ∷ cs) [] = []
counted_nodes (c ∷ cs) (n ∷ ns) = if c == 0 then counted_nodes cs ns else n ∷ counted_nodes cs ns

-- The nodes from an index to before another one.
abbrev pub part : ℕ → ℕ → List FlatNode → List FlatNode
part start end xs = take (end - start) (drop start xs)

abbrev pub part_at : List FlatNode → Option Sibling → List FlatNode
part_at xs None = []
part_at xs (Some s) = part s.start s.end xs

-- A sibling at an index with the nodes inside it, if there is one.
abbrev pub part_of : List Sibling → List FlatNode → Option ℕ → List FlatNode
part_of siblings xs None = []
part_of siblings xs (Some i) = part_at xs (slice_get siblings i)

-- The number of old nodes left before the one at an index, if that one is left.
abbrev pub distance_of : Option ℕ → List ℕ → Option ℕ
distance_of None counts = None
distance_of (Some i) counts = if slice_index_or counts i 0 == 0 then None else Some (total (take i counts))

-- The counts after the one at an index is taken out.
abbrev pub counts_after : Option ℕ → List ℕ → List ℕ
counts_after None counts = counts
counts_after (Some i) counts = slice_set counts i (slice_index_or counts i 0 - 1)

abbrev pub flat_new : FlatNode → NewNode
flat_new n = record { number = n.number; kind = n.kind; attributes = map flat_attribute n.attributes }

abbrev pub insert_of : ℕ → Option FlatNode → List Op
insert_of index None = []
insert_of index (Some n) = op.InsertTopDown index (flat_new n) ∷ []

-- The move of an old node, or the insert of a new one.
abbrev pub arrangement : ℕ → Option ℕ → Option FlatNode → List Op
arrangement index None flat = insert_of index flat
arrangement index (Some distance) flat = move_to index distance

-- The inserts and moves of new siblings that begin at an index, where old ones are found by `find`.
abbrev pub arrange_at : ℕ → (ℕ → Option ℕ) → List ℕ → List FlatNode → List Sibling → List Op
arrange_at index find counts new [] = []
arrange_at index find counts new (s ∷ ss) =
    arrangement index (distance_of (find s.number) counts) (slice_get new s.start)
    ++ arrange_at (index + 1) find (counts_after (find s.number) counts) new ss

-- The removals, inserts and moves that turn old siblings into new ones.
abbrev pub sibling_calls : List Sibling → List Sibling → List FlatNode → List Op
sibling_calls old new nodes =
    joined_calls
    (removals_at 0 (kept_counts new old) ++ arrange_at 0 (λ number. index_in number old) (kept_counts new old) nodes new)

-- An old node with the nodes inside it, in preorder.
abbrev pub flat_before : Option TreeNode → List FlatNode
flat_before None = []
flat_before (Some n) = flat_node (length (flat_nodes n.children)) n.number n.kind n.attributes ∷ flat_nodes n.children

-- The siblings of a tree after the first ones.
abbrev pub nodes_from : ℕ → Nodes → Nodes
nodes_from zero n = n
nodes_from (suc i) nodes.None = nodes.None
nodes_from (suc i) (Branch number kind attributes children rest) = nodes_from i rest

-- Two trees begin with nodes of one number.
abbrev pub BeginAlike : Nodes → Nodes → Type 0
BeginAlike nodes.None n = ⊥
BeginAlike (Branch number kind attributes children rest) nodes.None = ⊥
BeginAlike (Branch number kind attributes children rest) (Branch number' kind' attributes' children' rest') =
    number ≡ number'

-- The siblings of two trees have the same numbers in order.
abbrev pub HaveSameNumbers : Nodes → Nodes → Type 0
HaveSameNumbers nodes.None nodes.None = Unit {0}
HaveSameNumbers nodes.None (Branch number kind attributes children rest) = ⊥
HaveSameNumbers (Branch number kind attributes children rest) nodes.None = ⊥
HaveSameNumbers (Branch number kind attributes children rest) (Branch number' kind' attributes' children' rest') =
    (number ≡ number') × HaveSameNumbers rest rest'

-- The first node of a tree.
abbrev pub first_node : Nodes → Option TreeNode
first_node nodes.None = None
first_node (Branch number kind attributes children rest) = Some (tree_node number kind attributes children)
