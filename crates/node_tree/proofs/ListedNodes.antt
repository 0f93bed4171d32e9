-- The nodes of stored nodes in preorder, one stored node after the other.
use Rattle.std.proofs.Common.{◌≡◌, ℕ, suc, ◌+◌, ◌-◌, List, [], ◌∷◌, ◌++◌, map, length, slice_set, refl, ap, sym, ◌∙◌, arith, append_assoc, append-nil}
use Rattle.std.proofs.lemmas.List.{length-append}
use Rattle.rt_groups.specs.GroupForest.{Attribute}
use Rattle.rt_groups.specs.Nodes.{Nodes}
use Rattle.node_tree.specs.NodeTrees.{node_list, nodes_of}
use Rattle.node_tree.specs.FlatNodes.{FlatNode, flat_node, flat_nodes}
use Rattle.node_tree.specs.KeptNodes.{KeptValue, kept_of, nodes_kept, node_kept}
use Rattle.node_tree.proofs.StoredNodes.{nodes_joined}
use Rattle.node_tree.proofs.Turning.{nodes_back}

abbrev pub listed : List KeptValue → List FlatNode
listed ks = flat_nodes (nodes_kept (kept_of ks))

-- Another item after some items.
put : (old : List FlatNode) (x y : FlatNode) (inner : List FlatNode)
    → slice_set (old ++ (x ∷ inner)) (length old) y ≡ old ++ (y ∷ inner)
put [] x y inner = refl
put (o ∷ old) x y inner = ap (λ (l : List FlatNode). o ∷ l) (put old x y inner)

-- A node after some nodes, and the nodes inside it, with their number in it.
pub node_listed : (old mid now inner : List FlatNode) (at len number : ℕ) (kind : List ℕ) (attributes : List Attribute)
    (x : FlatNode) → mid ≡ old ++ x ∷ [] → now ≡ mid ++ inner → at ≡ length old → len ≡ length now
    → slice_set now at (flat_node (len - at - 1) number kind attributes)
    ≡ old ++ (flat_node (length inner) number kind attributes ∷ (inner ++ []))
node_listed old mid now inner at len number kind attributes x first more place many =
    let whole : now ≡ old ++ (x ∷ inner) = more ∙ ap (λ (l : List FlatNode). l ++ inner) first
    ∙ append_assoc old (x ∷ []) inner in
    let all : length now ≡ length old + suc (length inner) = ap (λ (l : List FlatNode). length l) whole
    ∙ length-append old (x ∷ inner) in
    let count : len - at - 1 ≡ length inner = omega (arith, all, place, many) in
    ap (λ (l : List FlatNode). slice_set l at (flat_node (len - at - 1) number kind attributes)) whole
    ∙ ap (λ (i : ℕ). slice_set (old ++ (x ∷ inner)) i (flat_node (len - at - 1) number kind attributes)) place
    ∙ put old x (flat_node (len - at - 1) number kind attributes) inner
    ∙ ap (λ (i : ℕ). old ++ (flat_node i number kind attributes ∷ inner)) count
    ∙ ap (λ (l : List FlatNode). old ++ (flat_node (length inner) number kind attributes ∷ l)) (sym (append-nil inner))

apart : (k : KeptValue) (rest : List KeptValue) → listed (k ∷ []) ++ listed rest ≡ listed (k ∷ rest)
apart k rest = ap
    (λ (l : List FlatNode). flat_node (length (flat_nodes (nodes_kept k.children))) k.number k.kind (node_kept k).attributes
    ∷ (l ++ listed rest)) (append-nil (flat_nodes (nodes_kept k.children)))

-- The nodes of the next stored node.
pub next_listed : (now new whole : List FlatNode) (k : KeptValue) (left rest : List KeptValue) → left ≡ k ∷ rest
    → now ++ listed left ≡ whole → new ≡ now ++ listed (k ∷ []) → new ++ listed rest ≡ whole
next_listed now new whole k left rest taken held appended =
    ap (λ (l : List FlatNode). l ++ listed rest) appended
    ∙ append_assoc now (listed (k ∷ [])) (listed rest)
    ∙ ap (λ (l : List FlatNode). now ++ l) (apart k rest)
    ∙ ap (λ (ks : List KeptValue). now ++ listed ks) (sym taken) ∙ held

-- After the last stored node.
pub all_listed : (now whole : List FlatNode) (left : List KeptValue) → left ≡ [] → now ++ listed left ≡ whole
    → now ≡ whole
all_listed now whole left none held =
    sym (append-nil now) ∙ ap (λ (ks : List KeptValue). now ++ listed ks) (sym none) ∙ held

-- The nodes of the children of the current node.
pub children_listed : (ks inside : List KeptValue) (t : Nodes) (nodes new : List FlatNode) → nodes ≡ []
    → new ≡ nodes ++ listed inside → ks ≡ inside → map node_kept ks ≡ node_list t → new ≡ flat_nodes t
children_listed ks inside t nodes new none all same children =
    all ∙ ap (λ (l : List FlatNode). l ++ listed inside) none ∙ ap listed (sym same)
    ∙ ap flat_nodes (nodes_joined ks ∙ ap nodes_of children ∙ nodes_back t)
