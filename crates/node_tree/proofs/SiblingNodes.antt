-- The siblings of a tree that is a list in preorder.
use Rattle.std.proofs.Common.{◌≡◌, ℕ, zero, suc, ◌+◌, ◌-◌, ◌<◌, ◌==◌, min, Bool, true, false, ◌||◌, List, [], ◌∷◌, ◌++◌, length, take, get_or, Option, Some, None, if◌then◌else◌, refl, ap, sym, ◌∙◌, arith, append_assoc}
use Rattle.std.specs.Prelude.{slice_get}
use Rattle.std.specs.Option.{is_some}
use Rattle.std.proofs.lemmas.Bool.{eqb-true, true≢false}
use Rattle.std.proofs.lemmas.List.{append-nil, length-append, drop_at, take_at}
use Rattle.rt_groups.specs.GroupForest.{Attribute}
use Rattle.rt_groups.specs.Nodes.{Nodes, Branch}
use Rattle.rt_groups.specs.Nodes as nodes
use Rattle.node_tree.specs.declared.siblings.Sibling.{Sibling}
use Rattle.node_tree.specs.NodeTrees.{TreeNode, tree_node, node_list}
use Rattle.node_tree.specs.Placing.{lists_number, numbered_node}
use Rattle.node_tree.specs.Premises.{HaveDistinctNumbers}
use Rattle.node_tree.specs.FlatNodes.{FlatNode, flat_node, flat_nodes}
use Rattle.node_tree.specs.SiblingLists.{sibling_list, siblings_of, last_index, index_in, part, part_of, part_at, flat_before, nodes_from}

-- Skipping the nodes of `xs` leaves the siblings of `ys`.
skip_front : (xs ys : List FlatNode) (at : ℕ)
    → sibling_list (length xs) at (xs ++ ys) ≡ sibling_list 0 (at + length xs) ys
skip_front [] ys at = ap (λ n. sibling_list 0 n ys) (let e : at ≡ at + 0 = omega arith in e)
skip_front (x ∷ xs) ys at = skip_front xs ys (at + 1)
    ∙ ap (λ n. sibling_list 0 n ys) (let e : at + 1 + length xs ≡ at + suc (length xs) = omega arith in e)

siblings_then : (n : Nodes) (ys : List FlatNode) (at : ℕ)
    → sibling_list 0 at (flat_nodes n ++ ys) ≡ siblings_of at n ++ sibling_list 0 (at + length (flat_nodes n)) ys
siblings_then nodes.None ys at = ap (λ n. sibling_list 0 n ys) (let e : at ≡ at + 0 = omega arith in e)
siblings_then (Branch number kind attributes children rest) ys at =
    let c : List FlatNode = flat_nodes children in
    let r : List FlatNode = flat_nodes rest in
    let long : length ((c ++ r) ++ ys) ≡ length c + length r + length ys =
    length-append (c ++ r) ys ∙ ap (λ n. n + length ys) (length-append c r) in
    let few : min (length c) (length ((c ++ r) ++ ys)) ≡ length c = omega (arith, long) in
    let far : at + 1 + length c + length r ≡ at + suc (length (c ++ r)) = omega (arith, length-append c r) in
    ap (λ n. record { number = number; start = at; end = at + 1 + n } ∷ sibling_list (length c) (at + 1)
    ((c ++ r) ++ ys)) few
    ∙ ap (λ l. record { number = number; start = at; end = at + 1 + length c } ∷ l) (
    ap (λ l. sibling_list (length c) (at + 1) l) (append_assoc c r ys)
    ∙ skip_front c (r ++ ys) (at + 1)
    ∙ siblings_then rest ys (at + 1 + length c)
    ∙ ap (λ n. siblings_of (at + 1 + length c) rest ++ sibling_list 0 n ys) far)

-- The siblings of the list are those of the tree.
pub siblings_are : (n : Nodes) → sibling_list 0 0 (flat_nodes n) ≡ siblings_of 0 n
siblings_are n = ap (λ l. sibling_list 0 0 l) (sym (append-nil (flat_nodes n))) ∙ siblings_then n [] 0
    ∙ append-nil (siblings_of 0 n)

-- Whether there is a sibling with a number.
some_index : (n : Nodes) (q i at : ℕ) (last : Option ℕ)
    → is_some (last_index q i last (siblings_of at n)) ≡ (is_some last || lists_number q (node_list n))
some_index nodes.None q i at last = by (is_some last)
  where
    by : (b : Bool) → b ≡ (b || false)
    by true = refl
    by false = refl
some_index (Branch number kind attributes children rest) q i at last =
    some_index rest q (i + 1) (at + 1 + length (flat_nodes children)) (if number == q then Some i else last)
    ∙ by (number == q) (is_some last) refl
  where
    by : (b l : Bool) → l ≡ is_some last
        → (is_some (if b then Some i else last) || lists_number q (node_list rest))
        ≡ (l || (b || lists_number q (node_list rest)))
    by true true e = refl
    by true false e = refl
    by false l e = ap (λ (x : Bool). x || lists_number q (node_list rest)) (sym e)

pub is_some_index : (n : Nodes) (q : ℕ) → is_some (index_in q (siblings_of 0 n)) ≡ lists_number q (node_list n)
is_some_index n q = some_index n q 0 0 None

-- The part of a joined list after the items of `front`.
part_after : (front middle back : List FlatNode) (start end : ℕ) → length front ≡ start → start + length middle ≡ end
    → part start end (front ++ (middle ++ back)) ≡ middle
part_after front middle back start end e f =
    ap (λ l. take (end - start) l) (drop_at front (middle ++ back) start e)
    ∙ take_at middle back (end - start) (omega (arith, f))

-- A sibling of a tree, by its index.
pub record SiblingAt (n : Nodes) (start_at i : ℕ) (front : List FlatNode) : Type 0 where
  pub number : ℕ
  pub kind : List ℕ
  pub attributes : List Attribute
  pub children : Nodes
  pub start : ℕ
  pub end : ℕ
  pub here : nodes_from i n ≡ Branch number kind attributes children (nodes_from (i + 1) n)
  pub sibling : (d : Sibling) → get_or (siblings_of start_at n) i d
      ≡ record { number = number; start = start; end = end }
  pub part : part start end (front ++ flat_nodes n) ≡ flat_node (length (flat_nodes children)) number kind attributes
      ∷ flat_nodes children

first_part : (number : ℕ) (kind : List ℕ) (attributes : List Attribute) (children rest : Nodes) (at : ℕ)
    (front : List FlatNode) → length front ≡ at
    → part at (at + 1 + length (flat_nodes children))
    (front ++ flat_nodes (Branch number kind attributes children rest))
    ≡ flat_node (length (flat_nodes children)) number kind attributes ∷ flat_nodes children
first_part number kind attributes children rest at front e =
    part_after front (flat_node (length (flat_nodes children)) number kind attributes ∷ flat_nodes children)
    (flat_nodes rest) at (at + 1 + length (flat_nodes children)) e (omega arith)

-- The nodes before the later siblings, if the list begins with `front`.
later_front : (number : ℕ) (kind : List ℕ) (attributes : List Attribute) (children rest : Nodes) (front : List FlatNode)
    → front ++ flat_nodes (Branch number kind attributes children rest)
    ≡ (front ++ (flat_node (length (flat_nodes children)) number kind attributes ∷ flat_nodes children))
    ++ flat_nodes rest
later_front number kind attributes children rest front =
    sym (append_assoc front (flat_node (length (flat_nodes children)) number kind attributes ∷ flat_nodes children)
    (flat_nodes rest))

later_length : (x : FlatNode) (c front : List FlatNode) (at : ℕ) → length front ≡ at
    → length (front ++ (x ∷ c)) ≡ at + 1 + length c
later_length x c front at e = omega (arith, length-append front (x ∷ c))

sibling_from : (n : Nodes) (at i : ℕ) (front : List FlatNode) → length front ≡ at → i < length (siblings_of at n)
    → SiblingAt n at i front
sibling_from nodes.None at i front e below = absurd (omega arith)
sibling_from (Branch number kind attributes children rest) at zero front e below = record {
  number = number;
  kind = kind;
  attributes = attributes;
  children = children;
  start = at;
  end = at + 1 + length (flat_nodes children);
  here = refl;
  sibling = λ d. refl;
  part = first_part number kind attributes children rest at front e;
}
sibling_from (Branch number kind attributes children rest) at (suc i) front e below =
    let x : FlatNode = flat_node (length (flat_nodes children)) number kind attributes in
    let s = sibling_from rest (at + 1 + length (flat_nodes children)) i (front ++ (x ∷ flat_nodes children))
    (later_length x (flat_nodes children) front at e) (omega arith) in
    let next : suc i + 1 ≡ suc (i + 1) = omega arith in
    record {
      number = s.number;
      kind = s.kind;
      attributes = s.attributes;
      children = s.children;
      start = s.start;
      end = s.end;
      here = s.here ∙ ap (λ k. Branch s.number s.kind s.attributes s.children
          (nodes_from k (Branch number kind attributes children rest))) (sym next);
      sibling = s.sibling;
      part = ap (λ l. part s.start s.end l) (later_front number kind attributes children rest front) ∙ s.part;
    }

pub sibling_at : (n : Nodes) (i : ℕ) → i < length (siblings_of 0 n) → SiblingAt n 0 i []
sibling_at n i below = sibling_from n 0 i [] refl below

-- A node with the number is at the index of a list.
abbrev pub IsNumberedAt : List TreeNode → ℕ → ℕ → Type 0
IsNumberedAt [] i q = ⊥
IsNumberedAt (o ∷ os) zero q = o.number ≡ q
IsNumberedAt (o ∷ os) (suc i) q = IsNumberedAt os i q

-- The result of looking up a number among siblings.
pub record FoundAt (n : Nodes) (q i at : ℕ) (front : List FlatNode) (found : Option ℕ) (t : TreeNode) : Type 0 where
  pub index : ℕ
  pub is : found ≡ Some (i + index)
  pub numbered : IsNumberedAt (node_list n) index q
  pub part : part_at (front ++ flat_nodes n) (slice_get (siblings_of at n) index) ≡ flat_before (Some t)

-- The look-up finds the node with the number, or leaves the last index.
abbrev pub LooksUp : Nodes → ℕ → ℕ → ℕ → List FlatNode → Option ℕ → Option ℕ → Option TreeNode → Type 0
LooksUp n q i at front last found None = found ≡ last
LooksUp n q i at front last found (Some t) = FoundAt n q i at front found t

not_there : (n : Nodes) (q i at : ℕ) (last : Option ℕ) → lists_number q (node_list n) ≡ false
    → last_index q i last (siblings_of at n) ≡ last
not_there nodes.None q i at last h = refl
not_there (Branch number kind attributes children rest) q i at last h =
    by (number == q) h (not_there rest q (i + 1) (at + 1 + length (flat_nodes children)) last)
  where
    by : (b : Bool) → (b || lists_number q (node_list rest)) ≡ false
        → (lists_number q (node_list rest) ≡ false
        → last_index q (i + 1) last (siblings_of (at + 1 + length (flat_nodes children)) rest) ≡ last)
        → last_index q (i + 1) (if b then Some i else last) (siblings_of (at + 1 + length (flat_nodes children)) rest)
        ≡ last
    by true e go = absurd (true≢false e)
    by false e go = go e

looks_up : (n : Nodes) (q i at : ℕ) (front : List FlatNode) (last : Option ℕ) → length front ≡ at
    → HaveDistinctNumbers (node_list n)
    → LooksUp n q i at front last (last_index q i last (siblings_of at n)) (numbered_node q (node_list n))
looks_up nodes.None q i at front last e d = refl
looks_up (Branch number kind attributes children rest) q i at front last e d =
    by (number == q) refl (λ last. looks_up rest q (i + 1) (at + 1 + length (flat_nodes children))
    (front ++ (x ∷ flat_nodes children)) last (later_length x (flat_nodes children) front at e) d.1)
  where
    x : FlatNode
    x = flat_node (length (flat_nodes children)) number kind attributes

    later : ℕ
    later = at + 1 + length (flat_nodes children)

    further : (o : Option TreeNode) (found : Option ℕ)
        → LooksUp rest q (i + 1) later (front ++ (x ∷ flat_nodes children)) last found o
        → LooksUp (Branch number kind attributes children rest) q i at front last found o
    further None found f = f
    further (Some t) found f = record {
      index = suc f.index;
      is = f.is ∙ ap (λ k. Some k) (let same : i + 1 + f.index ≡ i + suc f.index = omega arith in same);
      numbered = f.numbered;
      part = ap (λ l. part_at l (slice_get (siblings_of later rest) f.index))
          (later_front number kind attributes children rest front) ∙ f.part;
    }

    by : (b : Bool) → (number == q) ≡ b
        → ((last : Option ℕ) → LooksUp rest q (i + 1) later (front ++ (x ∷ flat_nodes children)) last
        (last_index q (i + 1) last (siblings_of later rest)) (numbered_node q (node_list rest)))
        → LooksUp (Branch number kind attributes children rest) q i at front last
        (last_index q (i + 1) (if b then Some i else last) (siblings_of later rest))
        (if b then Some (tree_node number kind attributes children) else numbered_node q (node_list rest))
    by true is go = record {
      index = 0;
      is = not_there rest q (i + 1) later (Some i)
          (ap (λ (j : ℕ). lists_number j (node_list rest)) (sym (eqb-true number q is)) ∙ d.0)
          ∙ ap (λ k. Some k) (let same : i ≡ i + 0 = omega arith in same);
      numbered = eqb-true number q is;
      part = first_part number kind attributes children rest at front e;
    }
    by false is go = further (numbered_node q (node_list rest))
        (last_index q (i + 1) last (siblings_of later rest)) (go last)

pub look_up : (n : Nodes) (q : ℕ) → HaveDistinctNumbers (node_list n)
    → LooksUp n q 0 0 [] None (index_in q (siblings_of 0 n)) (numbered_node q (node_list n))
look_up n q d = looks_up n q 0 0 [] None refl d

-- The part of the list for a number is the node with this number.
pub part_found : (n : Nodes) (q : ℕ) → HaveDistinctNumbers (node_list n)
    → part_of (siblings_of 0 n) (flat_nodes n) (index_in q (siblings_of 0 n)) ≡ flat_before
    (numbered_node q (node_list n))
part_found n q d = by (numbered_node q (node_list n)) (look_up n q d)
  where
    by : (o : Option TreeNode) → LooksUp n q 0 0 [] None (index_in q (siblings_of 0 n)) o
        → part_of (siblings_of 0 n) (flat_nodes n) (index_in q (siblings_of 0 n)) ≡ flat_before o
    by None e = ap (λ (i : Option ℕ). part_of (siblings_of 0 n) (flat_nodes n) i) e
    by (Some t) f =
        let same : 0 + f.index ≡ f.index = omega arith in
        ap (λ (i : Option ℕ). part_of (siblings_of 0 n) (flat_nodes n) i) (f.is ∙ ap (λ k. Some k) same) ∙ f.part
