-- The stored tree after a call represents the tree after the call.
use Rattle.std.proofs.Common.{◌≡◌, ℕ, ◌+◌, ◌≤◌, ◌<◌, Bool, true, false, List, [], ◌∷◌, ◌++◌, map, length, take, drop, refl, ap, sym, ◌∙◌, arith, append_assoc, if◌then◌else◌, nat_lt}
use Rattle.std.specs.List.{insert}
use Rattle.std.specs.Str.{bytes_eq}
use Rattle.std.proofs.lemmas.List.{take-map, drop-map, map-append, length-drop}
use Rattle.rt_values.specs.declared.value.Value.{Value}
use Rattle.rt_groups.specs.Nodes.{Nodes}
use Rattle.rt_groups.specs.declared.groups.Attribute.{Attribute as AttributeData}
use Rattle.gap_buffer.specs.Buffer.{list_after_move, exchanged_list}
use Rattle.node_tree.specs.NodeTrees.{TreeNode, tree_node, node_list}
use Rattle.node_tree.specs.Calls.{attribute_of, attributes_after_set, open_after_set, tree_after_down, tree_after_up}
use Rattle.node_tree.specs.KeptNodes.{KeptValue, kept_list, nodes_kept, node_kept, open_kept, list_weight, weight}
use Rattle.node_tree.specs.StoredTree.{StoredTree, stored_tree, cursor_tree, opened_value, closed_value, with_attributes, stored_after_down, stored_after_up, data_after_set, stored_after_set}
use Rattle.node_tree.proofs.StoredNodes.{kept_back, list_back, weight_split, nodes_listed, nodes_joined}

down_kept : (before after : List KeptValue) (s : StoredTree)
    → cursor_tree (stored_after_down before after s) ≡ tree_after_down (map node_kept before) (map node_kept after)
    (cursor_tree s)
down_kept before [] s = refl
down_kept before (k ∷ after) s =
    ap (λ (l : List TreeNode). record {
      children = l;
      open_nodes = open_kept (opened_value before k after) ∷ map open_kept s.open_nodes;
    })
    (sym (nodes_listed k.children))
    ∙ ap (λ (l : List KeptValue). record {
      children = node_list (nodes_kept k.children);
      open_nodes = record (open_kept (opened_value before k after)) { before = map node_kept l }
          ∷ map open_kept s.open_nodes;
    }) (kept_back before)
    ∙ ap (λ (l : List KeptValue). record {
      children = node_list (nodes_kept k.children);
      open_nodes = record (open_kept (opened_value before k after)) {
        before = map node_kept before;
        after = map node_kept l;
      } ∷ map open_kept s.open_nodes;
    }) (kept_back after)

-- The tree after `down`.
pub down_is : (index : ℕ) (s : StoredTree)
    → cursor_tree (stored_after_down (take index s.children) (drop index s.children) s) ≡ tree_after_down
    (take index (map node_kept s.children)) (drop index (map node_kept s.children)) (cursor_tree s)
down_is index s =
    down_kept (take index s.children) (drop index s.children) s
    ∙ ap (λ (l : List TreeNode). tree_after_down l (map node_kept (drop index s.children)) (cursor_tree s))
    (sym (take-map node_kept index s.children))
    ∙ ap (λ (l : List TreeNode). tree_after_down (take index (map node_kept s.children)) l (cursor_tree s))
    (sym (drop-map node_kept index s.children))

-- The tree after `up`.
pub up_is : (children open_nodes : List KeptValue) (spare : ℕ)
    → cursor_tree (stored_after_up children open_nodes spare) ≡ tree_after_up (map node_kept children)
    (map open_kept open_nodes)
up_is children [] spare = refl
up_is children (o ∷ open_nodes) spare =
    ap (λ (l : List TreeNode). record { children = l; open_nodes = map open_kept open_nodes }) (
    map-append node_kept (kept_list o.before) (closed_value children o ∷ kept_list o.after)
    ∙ ap (λ (ns : Nodes). map node_kept (kept_list o.before)
    ++ (tree_node o.number o.kind (map attribute_of o.attributes) ns ∷ map node_kept (kept_list o.after)))
    (nodes_joined children))

set_data : (name : List ℕ) (v : Value) (as_ : List AttributeData)
    → map attribute_of (data_after_set name v as_) ≡ attributes_after_set name v (map attribute_of as_)
set_data name v [] = refl
set_data name v (a ∷ as_) = by (bytes_eq a.name name) (set_data name v as_)
  where
    by : (b : Bool) → map attribute_of (data_after_set name v as_) ≡ attributes_after_set name v (map attribute_of as_)
        → map attribute_of (if b then record { name = a.name; value = v } ∷ as_ else a ∷ data_after_set name v as_)
        ≡ (if b then record { name = a.name; value = v } ∷ map attribute_of as_
        else attribute_of a ∷ attributes_after_set name v (map attribute_of as_))
    by true e = refl
    by false e = ap (λ l. attribute_of a ∷ l) e

-- The open nodes after `set`.
pub set_is : (name : List ℕ) (v : Value) (os : List KeptValue)
    → map open_kept (stored_after_set name v os) ≡ open_after_set name v (map open_kept os)
set_is name v [] = refl
set_is name v (o ∷ os) = ap (λ as_. record (open_kept o) { attributes = as_ } ∷ map open_kept os)
    (set_data name v o.attributes)

pub insert_is : (xs : List KeptValue) (i : ℕ) (x : KeptValue)
    → map node_kept (insert xs i x) ≡ insert (map node_kept xs) i (node_kept x)
insert_is xs i x =
    map-append node_kept (take i xs) (x ∷ drop i xs)
    ∙ ap (λ l. l ++ (node_kept x ∷ map node_kept (drop i xs))) (sym (take-map node_kept i xs))
    ∙ ap (λ l. take i (map node_kept xs) ++ (node_kept x ∷ l)) (sym (drop-map node_kept i xs))

pub remove_is : (xs : List KeptValue) (i j : ℕ)
    → map node_kept (take i xs ++ drop j xs) ≡ take i (map node_kept xs) ++ drop j (map node_kept xs)
remove_is xs i j =
    map-append node_kept (take i xs) (drop j xs)
    ∙ ap (λ l. l ++ map node_kept (drop j xs)) (sym (take-map node_kept i xs))
    ∙ ap (λ l. take i (map node_kept xs) ++ l) (sym (drop-map node_kept j xs))

middle_is : (xs : List KeptValue) (i j : ℕ) → map node_kept (drop i (take j xs)) ≡ drop i (take j (map node_kept xs))
middle_is xs i j = sym (drop-map node_kept i (take j xs)) ∙ ap (λ l. drop i l) (sym (take-map node_kept j xs))

exchange_is : (xs : List KeptValue) (f m t : ℕ)
    → map node_kept (exchanged_list f m t xs) ≡ exchanged_list f m t (map node_kept xs)
exchange_is xs f m t =
    map-append node_kept (take f xs) (drop m (take t xs) ++ (drop f (take m xs) ++ drop t xs))
    ∙ ap (λ l. map node_kept (take f xs) ++ l)
    (map-append node_kept (drop m (take t xs)) (drop f (take m xs) ++ drop t xs))
    ∙ ap (λ l. map node_kept (take f xs) ++ (map node_kept (drop m (take t xs)) ++ l))
    (map-append node_kept (drop f (take m xs)) (drop t xs))
    ∙ ap (λ l. l ++ (map node_kept (drop m (take t xs))
    ++ (map node_kept (drop f (take m xs)) ++ map node_kept (drop t xs)))) (sym (take-map node_kept f xs))
    ∙ ap (λ l. take f (map node_kept xs) ++ (l ++ (map node_kept (drop f (take m xs)) ++ map node_kept (drop t xs))))
    (middle_is xs m t)
    ∙ ap (λ l. take f (map node_kept xs) ++ (drop m (take t (map node_kept xs)) ++ (l ++ map node_kept (drop t xs))))
    (middle_is xs f m)
    ∙ ap (λ l. take f (map node_kept xs)
    ++ (drop m (take t (map node_kept xs)) ++ (drop f (take m (map node_kept xs)) ++ l)))
    (sym (drop-map node_kept t xs))

pub move_is : (xs : List KeptValue) (from to count : ℕ)
    → map node_kept (list_after_move from to count xs) ≡ list_after_move from to count (map node_kept xs)
move_is xs from to count = by (nat_lt to from) (nat_lt (from + count) to)
  where
    by : (b c : Bool) → map node_kept
        (if b then exchanged_list to from (from + count) xs
        else (if c then exchanged_list from (from + count) to xs else xs))
        ≡ (if b then exchanged_list to from (from + count) (map node_kept xs)
        else (if c then exchanged_list from (from + count) to (map node_kept xs) else map node_kept xs))
    by true c = exchange_is xs to from (from + count)
    by false true = exchange_is xs from (from + count) to
    by false false = refl

-- The stored tree after opening a child, from the parts that are split off.
pub record Opens (s : StoredTree) (index : ℕ) (children new outer : List KeptValue) : Type 0 where
  pub tree : stored_tree children (new ++ outer) s.spare ≡ stored_after_down (take index s.children)
      (drop index s.children) s
  pub weight : list_weight children + (list_weight new + list_weight outer) ≤ list_weight s.children
      + list_weight s.open_nodes

down_parts : (ds before after opened new children : List KeptValue) (s : StoredTree) → 0 < length ds
    → opened ≡ take 1 ds → after ≡ drop 1 ds
    → ((k : KeptValue) (more : List KeptValue) → opened ≡ k ∷ more
    → (new ≡ opened_value before k after ∷ more) × (children ≡ kept_list k.children))
    → (stored_tree children (new ++ s.open_nodes) s.spare ≡ stored_after_down before ds s)
    × (list_weight children + list_weight new ≤ list_weight ds + list_weight before)
down_parts [] before after opened new children s h e f so = absurd (omega arith)
down_parts (k ∷ ds) before after opened new children s h e f so =
    let first = so k [] e in
    let one : new ≡ opened_value before k ds ∷ [] =
    first.0 ∙ ap (λ (l : List KeptValue). opened_value before k l ∷ []) f in
    let inside : list_weight children ≡ weight k.children =
    ap list_weight first.1 ∙ ap (λ ks. weight ks) (list_back k.children) in
    let whole : list_weight new ≡ list_weight (opened_value before k ds ∷ []) = ap list_weight one in (
      ap (λ (l : List KeptValue). stored_tree children (l ++ s.open_nodes) s.spare) one
          ∙ ap (λ (l : List KeptValue). stored_tree l (opened_value before k ds ∷ s.open_nodes) s.spare) first.1,
      omega (arith, inside, whole),
    )

pub opens : (s : StoredTree) (index : ℕ) (front back opened after before new children outer : List KeptValue)
    → index < length s.children
    → front ≡ take index s.children → back ≡ drop index s.children → opened ≡ take 1 back → after ≡ drop 1 back
    → before ≡ front → outer ≡ s.open_nodes
    → ((k : KeptValue) (more : List KeptValue) → opened ≡ k ∷ more
    → (new ≡ opened_value before k after ∷ more) × (children ≡ kept_list k.children))
    → Opens s index children new outer
opens s index front back opened after before new children outer below f b o a same out so =
    let long : 0 < length back = omega (arith, ap length b, length-drop index s.children) in
    let parts = down_parts back before after opened new children s long o a so in
    let whole : list_weight front + list_weight back ≡ list_weight s.children =
    ap (λ l. list_weight l + list_weight back) f ∙ ap (λ l. list_weight (take index s.children) + list_weight l) b
    ∙ weight_split index s.children in
    record {
      tree = ap (λ (l : List KeptValue). stored_tree children (new ++ l) s.spare) out ∙ parts.0
          ∙ ap (λ (l : List KeptValue). stored_after_down l back s) (same ∙ f)
          ∙ ap (λ (l : List KeptValue). stored_after_down (take index s.children) l s) b;
      weight = omega (arith, parts.1, whole, ap list_weight same, ap list_weight out);
    }

-- The stored tree after closing the current node, from the parts that are split off.
pub record Closes (s : StoredTree) (before new after outer : List KeptValue) : Type 0 where
  pub tree : stored_tree ((before ++ new) ++ after) outer s.spare ≡ stored_after_up s.children s.open_nodes s.spare
  pub weight : list_weight before + list_weight new + list_weight after + list_weight outer ≤ list_weight s.children
      + list_weight s.open_nodes

up_parts : (children os closed new before after outer : List KeptValue) (spare : ℕ) → 0 < length os → closed ≡ take 1 os
    → outer ≡ drop 1 os
    → ((k : KeptValue) (more : List KeptValue) → closed ≡ k ∷ more
    → (new ≡ closed_value children k ∷ more) × (before ≡ kept_list k.before) × (after ≡ kept_list k.after))
    → (stored_tree ((before ++ new) ++ after) outer spare ≡ stored_after_up children os spare)
    × (list_weight before + list_weight new + list_weight after + list_weight outer ≤ list_weight children
    + list_weight os)
up_parts children [] closed new before after outer spare h e f so = absurd (omega arith)
up_parts children (o ∷ os) closed new before after outer spare h e f so =
    let first = so o [] e in
    let left : list_weight before ≡ weight o.before =
    ap list_weight first.1 ∙ ap (λ ks. weight ks) (list_back o.before) in
    let right : list_weight after ≡ weight o.after =
    ap list_weight first.2 ∙ ap (λ ks. weight ks) (list_back o.after) in
    let one : list_weight new ≡ list_weight (closed_value children o ∷ []) = ap list_weight first.0 in
    let rest : list_weight outer ≡ list_weight os = ap list_weight f in (
      ap (λ (l : List KeptValue). stored_tree ((before ++ l) ++ after) outer spare) first.0
          ∙ ap (λ (l : List KeptValue). stored_tree ((l ++ closed_value children o ∷ []) ++ after) outer spare) first.1
          ∙ ap (λ (l : List KeptValue). stored_tree ((kept_list o.before ++ closed_value children o ∷ []) ++ l) outer
          spare) first.2
          ∙ ap (λ (l : List KeptValue). stored_tree l outer spare)
          (append_assoc (kept_list o.before) (closed_value children o ∷ []) (kept_list o.after))
          ∙ ap (λ (l : List KeptValue). stored_tree
          (kept_list o.before ++ (closed_value children o ∷ kept_list o.after)) l spare) f,
      omega (arith, left, right, one, rest),
    )

pub closes : (s : StoredTree) (closed outer children before new after : List KeptValue) → 0 < length s.open_nodes
    → closed ≡ take 1 s.open_nodes → outer ≡ drop 1 s.open_nodes → children ≡ s.children
    → ((k : KeptValue) (more : List KeptValue) → closed ≡ k ∷ more
    → (new ≡ closed_value children k ∷ more) × (before ≡ kept_list k.before) × (after ≡ kept_list k.after))
    → Closes s before new after outer
closes s closed outer children before new after long c o e so =
    let parts = up_parts children s.open_nodes closed new before after outer s.spare long c o so in
    record {
      tree = parts.0 ∙ ap (λ (l : List KeptValue). stored_after_up l s.open_nodes s.spare) e;
      weight = omega (arith, parts.1, ap list_weight e);
    }

-- A node whose attributes change has as many nodes inside as before.
pub set_weight : (os new : List KeptValue) (name : List ℕ) (v : Value) → 0 < length os
    → ((k : KeptValue) (more : List KeptValue) → os ≡ k ∷ more
    → new ≡ with_attributes (data_after_set name v k.attributes) k ∷ more)
    → (new ≡ stored_after_set name v os) × (list_weight new ≡ list_weight os)
set_weight [] new name v h so = absurd (omega arith)
set_weight (o ∷ os) new name v h so = let first = so o os refl in (first, ap list_weight first)
