-- The lines of groups are the lines of the node tree.
use Rattle.std.proofs.Common.{◌≡◌, ℕ, suc, ◌+◌, List, [], ◌∷◌, ◌++◌, map, take, length, Bool, true, false, refl, sym, ap, ◌∙◌, append_assoc, append-nil, arith}
use Rattle.std.specs.List.{flat_map}
use Rattle.std.proofs.Math.Seq.{take-append_seam}
use Rattle.std.proofs.lemmas.List.{length-append}
use Rattle.std.proofs.lemmas.Grind.{flat_map-append}
use Rattle.rt_groups.specs.GroupForest.{GroupForest, End, Read, Attribute}
use Rattle.rt_groups.specs.GroupForest as trail
use Rattle.rt_groups.specs.PreorderGroups.{preorder, flat_attribute, flat_kind}
use Rattle.rt_groups.specs.Nodes.{Nodes, Branch, joined_nodes, group_nodes, nodes}
use Rattle.rt_groups.specs.Nodes as tree
use Rattle.rt_groups.specs.declared.groups.Group.{Group}
use Rattle.script_lang.specs.Lines.{node_line, tree_lines}
use Rattle.script_lang.specs.GroupLines.{plain_attribute, is_node, node_depth, line_of, group_lines, GroupsTellTheTree}

abbrev bytes : List (List ℕ) → List ℕ
bytes ls = flat_map (λ l. l) ls

-- Attributes of groups are those of the forest.
pub plain_attribute-flat_attribute : (as_ : List Attribute) → map plain_attribute (map flat_attribute as_) ≡ as_
plain_attribute-flat_attribute [] = refl
plain_attribute-flat_attribute (a ∷ more) = ap (λ l. a ∷ l) (plain_attribute-flat_attribute more)

-- The lines of two trees, one after the other.
lines-joined_nodes : (d : ℕ) (t u : Nodes) → tree_lines d (joined_nodes t u) ≡ tree_lines d t ++ tree_lines d u
lines-joined_nodes d tree.None u = refl
lines-joined_nodes d (Branch n kind attributes children rest) u =
    ap (λ l. node_line d n kind attributes ∷ (tree_lines (d + 1) children ++ l)) (lines-joined_nodes d rest u)
    ∙ ap (λ l. node_line d n kind attributes ∷ l)
    (sym (append_assoc (tree_lines (d + 1) children) (tree_lines d rest) (tree_lines d u)))

take-front : {X : Type 0} (xs ys : List X) (n : ℕ) → n ≡ length xs → take n (xs ++ ys) ≡ xs
take-front xs ys n e = ap (λ k. take k (xs ++ ys)) e ∙ take-append_seam xs ys

node_depth-node : (bs : List Bool) → node_depth (bs ++ true ∷ []) ≡ node_depth bs + 1
node_depth-node [] = refl
node_depth-node (true ∷ bs) = let h = node_depth-node bs in omega (arith, h)
node_depth-node (false ∷ bs) = node_depth-node bs

node_depth-other : (bs : List Bool) → node_depth (bs ++ false ∷ []) ≡ node_depth bs
node_depth-other [] = refl
node_depth-other (true ∷ bs) = ap suc (node_depth-other bs)
node_depth-other (false ∷ bs) = node_depth-other bs

length-behind : {X : Type 0} (xs : List X) (x : X) → length (xs ++ x ∷ []) ≡ length xs + 1
length-behind xs x = length-append xs (x ∷ [])

bytes-append : (xs ys : List (List ℕ)) → bytes (xs ++ ys) ≡ bytes xs ++ bytes ys
bytes-append xs ys = flat_map-append (λ l. l) xs ys

-- Two parts of a tree's lines, and the lines after them.
two : (d e : ℕ) (inside rest : Nodes) (k : List ℕ)
    → bytes (tree_lines e inside) ++ (bytes (tree_lines d rest) ++ k)
    ≡ bytes (tree_lines e inside ++ tree_lines d rest) ++ k
two d e inside rest k = sym (append_assoc (bytes (tree_lines e inside)) (bytes (tree_lines d rest)) k)
    ∙ ap (λ l. l ++ k) (sym (bytes-append (tree_lines e inside) (tree_lines d rest)))

-- A group that is not a node.
plain : (d e : ℕ) (inside rest : Nodes) (k : List ℕ) → e ≡ d
    → bytes (tree_lines e inside) ++ (bytes (tree_lines d rest) ++ k)
    ≡ bytes (tree_lines d (joined_nodes inside rest)) ++ k
plain d e inside rest k same =
    ap (λ n. bytes (tree_lines n inside) ++ (bytes (tree_lines d rest) ++ k)) same ∙ two d d inside rest k
    ∙ ap (λ l. bytes l ++ k) (sym (lines-joined_nodes d inside rest))

-- A node.
node : (d e n : ℕ) (kind : List ℕ) (as_ : List Attribute) (inside rest : Nodes) (k : List ℕ) → e ≡ d + 1 →
    node_line d n kind (map plain_attribute (map flat_attribute as_))
    ++ (bytes (tree_lines e inside) ++ (bytes (tree_lines d rest) ++ k))
    ≡ bytes (tree_lines d (Branch n kind as_ inside rest)) ++ k
node d e n kind as_ inside rest k deeper =
    ap (λ l. node_line d n kind l ++ (bytes (tree_lines e inside) ++ (bytes (tree_lines d rest) ++ k)))
    (plain_attribute-flat_attribute as_)
    ∙ ap (λ m. node_line d n kind as_ ++ (bytes (tree_lines m inside) ++ (bytes (tree_lines d rest) ++ k))) deeper
    ∙ ap (λ l. node_line d n kind as_ ++ l) (two d (d + 1) inside rest k)
    ∙ sym (append_assoc (node_line d n kind as_) (bytes (tree_lines (d + 1) inside ++ tree_lines d rest)) k)

group : (base : List Bool) (n : ℕ) (what : trail.GroupKind) (inside rest : Nodes) (k : List ℕ) →
    line_of (node_depth base) n (flat_kind what)
    ++ (bytes (tree_lines (node_depth (base ++ is_node (flat_kind what) ∷ [])) inside)
    ++ (bytes (tree_lines (node_depth base) rest) ++ k))
    ≡ bytes (tree_lines (node_depth base) (joined_nodes (group_nodes what n inside) rest)) ++ k
group base n (trail.Call f vs) inside rest k = plain (node_depth base) _ inside rest k (node_depth-other base)
group base n (trail.Node kind as_) inside rest k =
    node (node_depth base) _ n kind as_ inside rest k (node_depth-node base)
group base n (trail.Key v) inside rest k = plain (node_depth base) _ inside rest k (node_depth-other base)
group base n (trail.Cell ks v) inside rest k = plain (node_depth base) _ inside rest k (node_depth-other base)

-- Inside the open groups `base`, the lines of a forest come first. Deeper groups that were open before do not matter.
told : (t : GroupForest) (base extra : List Bool) (d : ℕ) (behind : List Group) (k : List ℕ) → d ≡ length base
    → ((more : List Bool) → group_lines (base ++ more) behind ≡ k) →
    group_lines (base ++ extra) (preorder d t ++ behind) ≡ bytes (tree_lines (node_depth base) (nodes t)) ++ k
told End base extra d behind k e h = h extra
told (Read x rest) base extra d behind k e h = told rest base extra d behind k e h
told (trail.Group site n what inside rest) base extra d behind k e h =
    let b = is_node (flat_kind what) in
    let k' = bytes (tree_lines (node_depth base) (nodes rest)) ++ k in
    let later : (more : List Bool) → group_lines ((base ++ b ∷ []) ++ more) (preorder d rest ++ behind) ≡ k' =
    λ more. ap (λ l. group_lines l (preorder d rest ++ behind)) (append_assoc base (b ∷ []) more)
    ∙ told rest base (b ∷ more) d behind k e h in
    let longer : d + 1 ≡ length (base ++ b ∷ []) = ap (λ m. m + 1) e ∙ sym (length-behind base b) in
    let within = told inside (base ++ b ∷ []) [] (d + 1) (preorder d rest ++ behind) k' longer later in
    ap (λ l. line_of (node_depth l) n (flat_kind what)
    ++ group_lines (l ++ b ∷ []) ((preorder (d + 1) inside ++ preorder d rest) ++ behind))
    (take-front base extra d e)
    ∙ ap (λ l. line_of (node_depth base) n (flat_kind what) ++ group_lines (base ++ b ∷ []) l)
    (append_assoc (preorder (d + 1) inside) (preorder d rest) behind)
    ∙ ap (λ l. line_of (node_depth base) n (flat_kind what)
    ++ group_lines l (preorder (d + 1) inside ++ (preorder d rest ++ behind))) (sym (append-nil (base ++ b ∷ [])))
    ∙ ap (λ l. line_of (node_depth base) n (flat_kind what) ++ l) within
    ∙ group base n what (nodes inside) (nodes rest) k

pub groups_tell_the_tree : GroupsTellTheTree
groups_tell_the_tree t =
    ap (group_lines []) (sym (append-nil (preorder 0 t))) ∙ told t [] [] 0 [] [] refl (λ more. refl)
    ∙ append-nil (bytes (tree_lines 0 (nodes t)))
