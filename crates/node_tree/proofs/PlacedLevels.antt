-- The calls of a level, and those inside its nodes.
use Rattle.std.proofs.Common.{◌≡◌, ℕ, zero, suc, ◌+◌, ◌≤◌, ◌<◌, List, [], ◌∷◌, ◌++◌, length, drop, get_or, Option, Some, None, refl, ap, sym, ◌∙◌, subst, arith, append_assoc}
use Rattle.std.proofs.lemmas.List.{append-nil}
use Rattle.rt_groups.specs.Nodes.{Nodes, Branch}
use Rattle.rt_groups.specs.Nodes as nodes
use Rattle.node_tree.specs.declared.siblings.Sibling.{Sibling}
use Rattle.node_tree.specs.declared.ops.Op.{Op}
use Rattle.node_tree.specs.declared.ops.Op.TheVariants as op
use Rattle.node_tree.specs.NodeTrees.{TreeNode, tree_node, node_list}
use Rattle.node_tree.specs.Placing.{numbered_node, sets_since, children_since, calls_inside, completion, inner_calls, ops_between}
use Rattle.node_tree.specs.Premises.{AllDistinct, ChildrenAreDistinct}
use Rattle.node_tree.specs.FlatNodes.{FlatNode, flat_node, flat_nodes}
use Rattle.node_tree.specs.SiblingLists.{sibling_list, siblings_of, index_in, sibling_calls, flat_before, nodes_from, part, part_of}
use Rattle.node_tree.proofs.DistinctNodes.{distinct_list, each_distinct, found_distinct}
use Rattle.node_tree.proofs.SiblingNodes.{siblings_are, sibling_at, part_found}
use Rattle.node_tree.proofs.SiblingCalls.{sibling_calls_are}

-- The siblings that are listed are those of the tree.
pub listed : (n : Nodes) (list : List FlatNode) (siblings items : List Sibling) → list ≡ flat_nodes n → siblings ≡ items
    → items ≡ sibling_list 0 0 list → siblings ≡ siblings_of 0 n
listed n list siblings items e f g = f ∙ g ∙ ap (λ l. sibling_list 0 0 l) e ∙ siblings_are n

pub level_begins : (o n : Nodes) (so sn : List Sibling) (new : List FlatNode) (before now : List Op)
    → so ≡ siblings_of 0 o → sn ≡ siblings_of 0 n → new ≡ flat_nodes n → AllDistinct o → AllDistinct n
    → now ≡ before ++ sibling_calls so sn new
    → now ++ inner_calls 0 (node_list o) n ≡ before ++ ops_between (node_list o) n
level_begins o n so sn new before now e f g d h is =
    ap (λ l. l ++ inner_calls 0 (node_list o) n) (
    is ∙ ap (λ s. before ++ sibling_calls s sn new) e ∙ ap (λ s. before ++ sibling_calls (siblings_of 0 o) s new) f
    ∙ ap (λ l. before ++ sibling_calls (siblings_of 0 o) (siblings_of 0 n) l) g
    ∙ ap (λ l. before ++ l) (sibling_calls_are o n (distinct_list o d) (distinct_list n h)))
    ∙ append_assoc before _ (inner_calls 0 (node_list o) n)

pub distinct_from : (i : ℕ) (n : Nodes) → AllDistinct n → AllDistinct (nodes_from i n)
distinct_from zero n d = d
distinct_from (suc i) nodes.None d = d
distinct_from (suc i) (Branch number kind attributes children rest) d = distinct_from i rest d.2

nodes_past : (n : Nodes) (at i : ℕ) → length (siblings_of at n) ≤ i → nodes_from i n ≡ nodes.None
nodes_past nodes.None at zero h = refl
nodes_past nodes.None at (suc i) h = refl
nodes_past (Branch number kind attributes children rest) at zero h = absurd (omega arith)
nodes_past (Branch number kind attributes children rest) at (suc i) h =
    nodes_past rest (at + 1 + length (flat_nodes children)) i (omega arith)

pub level_ends : (o n : Nodes) (sn : List Sibling) (i : ℕ) (now whole : List Op) → sn ≡ siblings_of 0 n → length sn ≤ i
    → now ++ inner_calls i (node_list o) (nodes_from i n) ≡ whole → now ≡ whole
level_ends o n sn i now whole e past so =
    let none : nodes_from i n ≡ nodes.None = nodes_past n 0 i (subst (λ (s : List Sibling). length s ≤ i) e past) in
    sym (append-nil now) ∙ ap (λ (r : Nodes). now ++ inner_calls i (node_list o) r) (sym none) ∙ so

-- The requirements and results of the calls inside a node.
abbrev pub Inner : ℕ → List FlatNode → List FlatNode → List Op → List Op → Type 0
Inner index old new was now =
    (before : Option TreeNode) (node : FlatNode) (children : Nodes) → old ≡ flat_before before
    → new ≡ node ∷ flat_nodes children → ChildrenAreDistinct before → AllDistinct children
    → now ≡ was ++ (calls_inside index
    (sets_since before node.attributes ++ ops_between (children_since before) children)
    ++ completion before index (tree_node node.number node.kind node.attributes children))

pub level_goes_on : (o n : Nodes) (so sn : List Sibling) (d : Sibling) (find : Option ℕ)
    (old new before after : List FlatNode) (i : ℕ) (was now whole : List Op)
    → so ≡ siblings_of 0 o → sn ≡ siblings_of 0 n → old ≡ flat_nodes o → new ≡ flat_nodes n → AllDistinct o
    → AllDistinct n → i < length sn
    → find ≡ index_in (get_or sn i d).number so → before ≡ part_of so old find
    → after ≡ part (get_or sn i d).start (get_or sn i d).end new
    → Inner i before after was now → was ++ inner_calls i (node_list o) (nodes_from i n) ≡ whole
    → now ++ inner_calls (i + 1) (node_list o) (nodes_from (i + 1) n) ≡ whole
level_goes_on o n so sn d find old new before after i was now whole e f g h distinct_old distinct_new below found is_before is_after inner so_far =
    let s = sibling_at n i (subst (λ (l : List Sibling). i < length l) f below) in
    let sibling : get_or sn i d ≡ record { number = s.number; start = s.start; end = s.end } =
    ap (λ (l : List Sibling). get_or l i d) f ∙ s.sibling d in
    let t : Option TreeNode = numbered_node s.number (node_list o) in
    let first : before ≡ flat_before t =
    is_before ∙ ap (λ (k : Option ℕ). part_of so old k) (found ∙ ap (λ (x : Sibling). index_in x.number so) sibling)
    ∙ ap (λ (l : List Sibling). part_of l old (index_in s.number l)) e
    ∙ ap (λ (l : List FlatNode). part_of (siblings_of 0 o) l (index_in s.number (siblings_of 0 o))) g
    ∙ part_found o s.number (distinct_list o distinct_old) in
    let second : after ≡ flat_node (length (flat_nodes s.children)) s.number s.kind s.attributes
    ∷ flat_nodes s.children =
    is_after ∙ ap (λ (x : Sibling). part x.start x.end new) sibling
    ∙ ap (λ (l : List FlatNode). part s.start s.end l) h ∙ s.part in
    let children : AllDistinct s.children =
    (subst (λ (r : Nodes). AllDistinct r) s.here (distinct_from i n distinct_new)).1 in
    let one = inner t (flat_node (length (flat_nodes s.children)) s.number s.kind s.attributes) s.children first second
    (found_distinct s.number (node_list o) (each_distinct o distinct_old)) children in
    let rest : List Op = inner_calls (i + 1) (node_list o) (nodes_from (i + 1) n) in
    let inside : List Op =
    calls_inside i (sets_since t s.attributes ++ ops_between (children_since t) s.children) in
    let report : List Op = completion t i (tree_node s.number s.kind s.attributes s.children) in
    ap (λ l. l ++ rest) one
    ∙ append_assoc was (inside ++ report) rest
    ∙ ap (λ l. was ++ l) (append_assoc inside report rest)
    ∙ ap (λ (r : Nodes). was ++ inner_calls i (node_list o) r) (sym s.here)
    ∙ so_far

-- The children of the old node, or no nodes if the node is new.
abbrev pub old_children : Option TreeNode → Nodes
old_children None = nodes.None
old_children (Some t) = t.children

pub inside_before : (before : Option TreeNode) (old after : List FlatNode) → old ≡ flat_before before
    → after ≡ drop 1 old → after ≡ flat_nodes (old_children before)
inside_before None old after e f = f ∙ ap (λ (l : List FlatNode). drop 1 l) e
inside_before (Some t) old after e f = f ∙ ap (λ (l : List FlatNode). drop 1 l) e

pub distinct_before : (before : Option TreeNode) → ChildrenAreDistinct before → AllDistinct (old_children before)
distinct_before None d = tt
distinct_before (Some t) d = d

since_before : (before : Option TreeNode) → node_list (old_children before) ≡ children_since before
since_before None = refl
since_before (Some t) = refl

pub same_first : (new inside : List FlatNode) (node first : FlatNode) (children : Nodes)
    → new ≡ node ∷ flat_nodes children → new ≡ first ∷ inside → (first ≡ node) × (inside ≡ flat_nodes children)
same_first new inside node first children e f = (cc, cc)

-- The calls inside a node, one after another.
pub inside_all : (before : Option TreeNode) (node first : FlatNode) (children : Nodes) (index : ℕ)
    (was pushed set now : List Op) → first ≡ node
    → pushed ≡ was ++ op.Down index ∷ [] → set ≡ pushed ++ sets_since before first.attributes
    → now ≡ set ++ ops_between (node_list (old_children before)) children
    → now ≡ was ++ (op.Down index ∷ (sets_since before node.attributes ++ ops_between (children_since before) children))
inside_all before node first children index was pushed set now e p s l =
    let sets : List Op = sets_since before node.attributes in
    let level : List Op = ops_between (children_since before) children in
    l ∙ ap (λ (c : List TreeNode). set ++ ops_between c children) (since_before before)
    ∙ ap (λ x. x ++ level) (s ∙ ap (λ (x : FlatNode). pushed ++ sets_since before x.attributes) e
    ∙ ap (λ x. x ++ sets) p)
    ∙ append_assoc (was ++ op.Down index ∷ []) sets level
    ∙ append_assoc was (op.Down index ∷ []) (sets ++ level)

-- The calls inside a node and the report of an inserted one.
pub completed_inside : (before : Option TreeNode) (node first : FlatNode) (children : Nodes) (index : ℕ)
    (was inside now calls : List Op) → first ≡ node → inside ≡ was ++ calls
    → now ≡ inside ++ completion before index (tree_node first.number first.kind first.attributes children)
    → now ≡ was ++ (calls ++ completion before index (tree_node node.number node.kind node.attributes children))
completed_inside before node first children index was inside now calls e f g =
    g ∙ ap (λ (x : FlatNode). inside ++ completion before index (tree_node x.number x.kind x.attributes children)) e
    ∙ ap (λ (l : List Op). l ++ completion before index (tree_node node.number node.kind node.attributes children)) f
    ∙ append_assoc was calls _
