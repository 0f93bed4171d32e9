-- Stored nodes, their number and what they represent.
use Rattle.std.proofs.Common.{◌≡◌, ℕ, ◌+◌, ◌≤◌, List, [], ◌∷◌, ◌++◌, map, length, take, drop, refl, ap, sym, ◌∙◌, arith}
use Rattle.std.proofs.lemmas.List.{take-append-drop}
use Rattle.rt_groups.specs.Nodes.{Branch}
use Rattle.node_tree.specs.NodeTrees.{node_list, nodes_of}
use Rattle.node_tree.specs.KeptNodes.{KeptNodes, KeptValue, NoNode, Kept, kept_of, kept_list, list_weight, nodes_kept, node_kept}

pub kept_back : (ks : List KeptValue) → kept_list (kept_of ks) ≡ ks
kept_back [] = refl
kept_back (k ∷ ks) = ap (λ l. k ∷ l) (kept_back ks)

pub list_back : (ks : KeptNodes) → kept_of (kept_list ks) ≡ ks
list_back NoNode = refl
list_back (Kept n k a c b f r) = ap (λ l. Kept n k a c b f l) (list_back r)

pub weight_append : (xs ys : List KeptValue) → list_weight (xs ++ ys) ≡ list_weight xs + list_weight ys
weight_append [] ys = omega arith
weight_append (x ∷ xs) ys = omega (arith, weight_append xs ys)

pub length_weight : (xs : List KeptValue) → length xs ≤ list_weight xs
length_weight [] = omega arith
length_weight (x ∷ xs) = omega (arith, length_weight xs)

pub weight_split : (n : ℕ) (xs : List KeptValue) → list_weight (take n xs) + list_weight (drop n xs) ≡ list_weight xs
weight_split n xs = sym (weight_append (take n xs) (drop n xs)) ∙ ap list_weight (take-append-drop n xs)

-- The nodes of stored nodes, as lists.
pub nodes_listed : (ks : KeptNodes) → node_list (nodes_kept ks) ≡ map node_kept (kept_list ks)
nodes_listed NoNode = refl
nodes_listed (Kept n k a c b f r) =
    ap (λ l. node_kept (record { number = n; kind = k; attributes = a; children = c; before = b; after = f }) ∷ l)
    (nodes_listed r)

pub nodes_joined : (ks : List KeptValue) → nodes_kept (kept_of ks) ≡ nodes_of (map node_kept ks)
nodes_joined [] = refl
nodes_joined (k ∷ ks) = ap (λ l. Branch k.number k.kind (node_kept k).attributes (nodes_kept k.children) l)
    (nodes_joined ks)
