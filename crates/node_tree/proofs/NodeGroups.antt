-- The nodes among the groups of a forest are its nodes in preorder.
use Rattle.std.proofs.Common.{◌≡◌, ◌≤◌, ◌<◌, ℕ, zero, suc, ◌+◌, ◌-◌, nat_le, Bool, true, false, List, [], ◌∷◌, ◌++◌, map, length, length-set, drop, drop-cons, set, get_or, if◌then◌else◌, refl, ap, sym, ◌∙◌, arith, append_assoc, append-nil}
use Rattle.std.proofs.lemmas.List.{length-append}
use Rattle.rt_groups.specs.declared.groups.Group.{Group as Kept}
use Rattle.rt_groups.specs.declared.groups.GroupKind.{GroupKind as GroupKindData}
use Rattle.rt_groups.specs.declared.groups.GroupKind.TheVariants as what
use Rattle.rt_groups.specs.GroupForest.{GroupForest, End, Read, Group, GroupKind, Call, Node, Key, Cell, Attribute}
use Rattle.rt_groups.specs.Nodes.{Nodes, Branch, joined_nodes, group_nodes, nodes}
use Rattle.rt_groups.specs.Nodes as tree
use Rattle.rt_groups.specs.PreorderGroups.{preorder, flat_kind, flat_attribute}
use Rattle.slot_table.specs.ReaderStates.{after_deep, begins_at}
use Rattle.slot_table.specs.TableGroups.{is_node_kind}
use Rattle.slot_table.specs.Siblings.{SkippingLeavesTheSiblings}
use Rattle.node_tree.specs.Calls.{attribute_of}
use Rattle.node_tree.specs.FlatNodes.{FlatNode, flat_node, flat_nodes}
use Rattle.node_tree.specs.NodeGroups.{node_count, later_counts, node_of_kind, inner_nodes, nodes_among}
use Rattle.node_tree.proofs.ChildCalls.{attributes_back}

flat_joined : (s t : Nodes) → flat_nodes (joined_nodes s t) ≡ flat_nodes s ++ flat_nodes t
flat_joined tree.None t = refl
flat_joined (Branch n kind attributes children rest) t =
    ap (λ l. flat_node (length (flat_nodes children)) n kind attributes ∷ l)
    (ap (λ l. flat_nodes children ++ l) (flat_joined rest t)
    ∙ sym (append_assoc (flat_nodes children) (flat_nodes rest) (flat_nodes t)))

count_joined : (xs ys : List Kept) → node_count (xs ++ ys) ≡ node_count xs + node_count ys
count_joined [] ys = omega arith
count_joined (x ∷ xs) ys = let e = count_joined xs ys in omega (arith, e)

-- The number of nodes of a group with those inside it.
group_counted : (what : GroupKind) (n inner : ℕ) (inside : Nodes) → inner ≡ length (flat_nodes inside)
    → (if is_node_kind (flat_kind what) then 1 else 0) + inner ≡ length (flat_nodes (group_nodes what n inside))
group_counted (Call f vs) n inner inside e = omega (arith, e)
group_counted (Node kind attributes) n inner inside e =
    let f : length (flat_nodes inside ++ []) ≡ length (flat_nodes inside) =
    ap (λ (l : List FlatNode). length l) (append-nil (flat_nodes inside)) in
    omega (arith, e, f)
group_counted (Key v) n inner inside e = omega (arith, e)
group_counted (Cell ks v) n inner inside e = omega (arith, e)

-- The number of nodes of a forest.
counted : (depth : ℕ) (t : GroupForest) → node_count (preorder depth t) ≡ length (flat_nodes (nodes t))
counted depth End = refl
counted depth (Read x rest) = counted depth rest
counted depth (Group site n what inside rest) =
    let here = group_counted what n (node_count (preorder (depth + 1) inside)) (nodes inside)
    (counted (depth + 1) inside) in
    let later = counted depth rest in
    let apart = count_joined (preorder (depth + 1) inside) (preorder depth rest) in
    let long : length (flat_nodes (joined_nodes (group_nodes what n (nodes inside)) (nodes rest))) ≡ length
    (flat_nodes (group_nodes what n (nodes inside))) + length (flat_nodes (nodes rest)) =
    ap (λ (l : List FlatNode). length l) (flat_joined (group_nodes what n (nodes inside)) (nodes rest))
    ∙ length-append (flat_nodes (group_nodes what n (nodes inside))) (flat_nodes (nodes rest)) in
    omega (arith, here, later, apart, long)

-- The nodes of a group and of the groups inside it.
group_listed : (what : GroupKind) (n inner : ℕ) (inside : Nodes) → inner ≡ length (flat_nodes inside)
    → node_of_kind inner n (flat_kind what) ++ flat_nodes inside ≡ flat_nodes (group_nodes what n inside)
group_listed (Call f vs) n inner inside e = refl
group_listed (Node kind attributes) n inner inside e =
    ap (λ (i : ℕ). flat_node i n kind (map attribute_of (map flat_attribute attributes)) ∷ flat_nodes inside) e
    ∙ ap (λ (l : List Attribute). flat_node (length (flat_nodes inside)) n kind l ∷ flat_nodes inside)
    (attributes_back attributes)
    ∙ ap (λ (l : List FlatNode). flat_node (length (flat_nodes inside)) n kind attributes ∷ l)
    (sym (append-nil (flat_nodes inside)))
group_listed (Key v) n inner inside e = refl
group_listed (Cell ks v) n inner inside e = refl

ends_at : (d : ℕ) (more : List Kept) → begins_at d more ≡ false → begins_at (d + 1) more ≡ false
ends_at d [] e = refl
ends_at d (g ∷ gs) e = below d g.depth e
  where
    below : (d x : ℕ) → nat_le d x ≡ false → nat_le (d + 1) x ≡ false
    below d x e = grind arith

deeper_ends : (d : ℕ) (t : GroupForest) (more : List Kept) → begins_at (d + 1) more ≡ false
    → begins_at (d + 1) (preorder d t ++ more) ≡ false
deeper_ends d End more e = e
deeper_ends d (Read x rest) more e = deeper_ends d rest more e
deeper_ends d (Group site n what inside rest) more e = above d
  where
    above : (d : ℕ) → nat_le (d + 1) d ≡ false
    above d = grind arith

listed : (skipping : SkippingLeavesTheSiblings) (depth : ℕ) (t : GroupForest) (more : List Kept)
    → begins_at (depth + 1) more ≡ false
    → nodes_among (preorder depth t ++ more) ≡ flat_nodes (nodes t) ++ nodes_among more
listed skipping depth End more e = refl
listed skipping depth (Read x rest) more e = listed skipping depth rest more e
listed skipping depth (Group site n what inside rest) more e =
    let within : List Kept = preorder (depth + 1) inside in
    let later : List Kept = preorder depth rest ++ more in
    let whole : (within ++ preorder depth rest) ++ more ≡ within ++ later =
    append_assoc within (preorder depth rest) more in
    let past : after_deep (depth + 1) (within ++ later) ≡ later = skipping depth inside rest more e in
    let apart = count_joined within later in
    let many = counted (depth + 1) inside in
    let inner : inner_nodes depth (within ++ later) ≡ length (flat_nodes (nodes inside)) =
    ap (λ (l : List Kept). node_count (within ++ later) - node_count l) past
    ∙ (let s : node_count (within ++ later) - node_count later ≡ length (flat_nodes (nodes inside)) = omega (
      arith,
      apart,
      many,
    ) in s) in
    let group : List FlatNode = flat_nodes (group_nodes what n (nodes inside)) in
    ap (λ (l : List Kept). node_of_kind (inner_nodes depth l) n (flat_kind what) ++ nodes_among l) whole
    ∙ ap (λ (l : List FlatNode). node_of_kind (inner_nodes depth (within ++ later)) n (flat_kind what) ++ l)
    (listed skipping (depth + 1) inside later (ends_at (depth + 1) later (deeper_ends depth rest more e)))
    ∙ sym (append_assoc (node_of_kind (inner_nodes depth (within ++ later)) n (flat_kind what))
    (flat_nodes (nodes inside)) (nodes_among later))
    ∙ ap (λ (l : List FlatNode). l ++ nodes_among later)
    (group_listed what n (inner_nodes depth (within ++ later)) (nodes inside) inner)
    ∙ ap (λ (l : List FlatNode). group ++ l) (listed skipping depth rest more e)
    ∙ sym (append_assoc group (flat_nodes (nodes rest)) (nodes_among more))
    ∙ ap (λ (l : List FlatNode). l ++ nodes_among more)
    (sym (flat_joined (group_nodes what n (nodes inside)) (nodes rest)))

-- The nodes among the groups of a whole forest.
pub nodes_are_listed : (skipping : SkippingLeavesTheSiblings) (t : GroupForest) (groups : List Kept)
    (list : List FlatNode) → groups ≡ preorder 0 t → list ≡ nodes_among groups → list ≡ flat_nodes (nodes t)
nodes_are_listed skipping t groups list e f =
    f ∙ ap nodes_among (e ∙ sym (append-nil (preorder 0 t))) ∙ listed skipping 0 t [] refl
    ∙ append-nil (flat_nodes (nodes t))

-- Counts of nodes.

pub few_nodes : (gs : List Kept) → node_count gs ≤ length gs
few_nodes [] = omega arith
few_nodes (g ∷ gs) = by (is_node_kind g.what) (few_nodes gs)
  where
    by : (b : Bool) → node_count gs ≤ length gs → (if b then 1 else 0) + node_count gs ≤ suc (length gs)
    by true e = omega (arith, e)
    by false e = omega (arith, e)

pub count_is : (gs : List Kept) (i : ℕ) → get_or (later_counts gs) i 0 ≡ node_count (drop i gs)
count_is [] zero = refl
count_is [] (suc i) = refl
count_is (g ∷ gs) zero = refl
count_is (g ∷ gs) (suc i) = count_is gs i

set_first : (xs : List ℕ) (k v : ℕ) → k < length xs → drop k (set xs k v) ≡ v ∷ drop (suc k) xs
set_first [] k v inside = absurd (omega (arith, inside))
set_first (x ∷ xs) zero v inside = refl
set_first (x ∷ xs) (suc k) v inside = set_first xs k v (omega (arith, inside))

drop_past : {X : Type 0} (xs : List X) (i : ℕ) → length xs ≤ i → drop i xs ≡ []
drop_past [] zero h = refl
drop_past [] (suc i) h = refl
drop_past (x ∷ xs) zero h = absurd (omega (arith, h))
drop_past (x ∷ xs) (suc i) h = drop_past xs i (omega (arith, h))

pub at_most_one : (b : Bool) (n : ℕ) → n ≡ (if b then 1 else 0) → n ≤ 1
at_most_one true n e = omega (arith, e)
at_most_one false n e = omega (arith, e)

later_at : (xs : List ℕ) (i : ℕ) (d : ℕ) → get_or (drop i xs) 0 d ≡ get_or xs i d
later_at [] zero d = refl
later_at [] (suc i) d = refl
later_at (x ∷ xs) zero d = refl
later_at (x ∷ xs) (suc i) d = later_at xs i d

-- The count from an index on is that of the groups from there on.
pub known_count : (gs : List Kept) (counts : List ℕ) (at : ℕ) → drop at counts ≡ later_counts (drop at gs)
    → get_or counts at 0 ≡ node_count (drop at gs)
known_count gs counts at e = sym (later_at counts at 0) ∙ ap (λ l. get_or l 0 0) e ∙ count_is (drop at gs) 0

-- The counts from an index, after the count of the group at that index is set.
pub one_earlier : (gs : List Kept) (counts : List ℕ) (at k v one : ℕ) (d : Kept) → at ≡ k + 1 → at ≤ length gs
    → length counts ≡ length gs → drop at counts ≡ later_counts (drop at gs)
    → one ≡ (if is_node_kind (get_or gs k d).what then 1 else 0) → v ≡ get_or counts at 0 + one
    → (k ≤ length gs) × (length (set counts k v) ≡ length gs) × (drop k (set counts k v) ≡ later_counts (drop k gs))
one_earlier gs counts at k v one d next inside long known is told =
    let same : at ≡ suc k = omega (arith, next) in
    let first : drop k gs ≡ get_or gs k d ∷ drop (suc k) gs = drop-cons gs k d (omega (arith, next, inside)) in
    let after : drop (suc k) counts ≡ later_counts (drop (suc k) gs) = ap (λ n. drop n counts) (sym same) ∙ known
    ∙ ap (λ n. later_counts (drop n gs)) same in
    let count : get_or counts at 0 ≡ node_count (drop (suc k) gs) = known_count gs counts at known
    ∙ ap (λ n. node_count (drop n gs)) same in
    let whole : v ≡ (if is_node_kind (get_or gs k d).what then 1 else 0) + node_count (drop (suc k) gs) =
    omega (arith, told, is, count) in (
      omega (arith, next, inside),
      length-set counts k v ∙ long,
      set_first counts k v (omega (arith, next, inside, long)) ∙ ap (λ n. n ∷ drop (suc k) counts) whole
          ∙ ap (λ l. ((if is_node_kind (get_or gs k d).what then 1 else 0) + node_count (drop (suc k) gs)) ∷ l) after
          ∙ sym (ap later_counts first),
    )

-- A group that is no node adds no node to the list.
pub no_node : (inner number : ℕ) (g : GroupKindData) (list : List FlatNode) → is_node_kind g ≡ false
    → list ≡ list ++ node_of_kind inner number g
no_node inner number (what.Call f vs) list e = sym (append-nil list)
no_node inner number (what.Node kind attributes) list e = absurd (let t : true ≡ false = e in cc)
no_node inner number (what.Key v) list e = sym (append-nil list)
no_node inner number (what.Cell ks v) list e = sym (append-nil list)

-- The nodes inside a group, by counts.
pub inside_is : (gs : List Kept) (counts : List ℕ) (d : Kept) (at after first second : ℕ) → counts ≡ later_counts gs
    → at < length gs
    → ((g : Kept) (rest : List Kept) → drop at gs ≡ g ∷ rest → drop after gs ≡ after_deep (g.depth + 1) rest)
    → first ≡ get_or counts (at + 1) 0 → second ≡ get_or counts after 0
    → first - second ≡ inner_nodes (get_or gs at d).depth (drop (at + 1) gs)
inside_is gs counts d at after first second e inside ends is_first is_second =
    let next : suc at ≡ at + 1 = omega arith in
    let here : drop at gs ≡ get_or gs at d ∷ drop (at + 1) gs =
    drop-cons gs at d inside ∙ ap (λ n. get_or gs at d ∷ drop n gs) next in
    let past = ends (get_or gs at d) (drop (at + 1) gs) here in
    let one : first ≡ node_count (drop (at + 1) gs) = is_first ∙ ap (λ l. get_or l (at + 1) 0) e
    ∙ count_is gs (at + 1) in
    let two : second ≡ node_count (after_deep ((get_or gs at d).depth + 1) (drop (at + 1) gs)) =
    is_second ∙ ap (λ l. get_or l after 0) e ∙ count_is gs after ∙ ap node_count past in
    ap (λ n. n - second) one ∙ ap (λ n. node_count (drop (at + 1) gs) - n) two

-- The nodes among the groups from an index on.
pub one_further : (gs : List Kept) (d : Kept) (at : ℕ) (before now : List FlatNode) → at < length gs
    → now ≡ before ++ node_of_kind (inner_nodes (get_or gs at d).depth (drop (at + 1) gs)) (get_or gs at d).number
    (get_or gs at d).what
    → before ++ nodes_among (drop at gs) ≡ nodes_among gs → now ++ nodes_among (drop (at + 1) gs) ≡ nodes_among gs
one_further gs d at before now inside is so_far =
    let next : suc at ≡ at + 1 = omega arith in
    let g : Kept = get_or gs at d in
    let rest : List Kept = drop (at + 1) gs in
    let here : drop at gs ≡ g ∷ rest = drop-cons gs at d inside ∙ ap (λ n. get_or gs at d ∷ drop n gs) next in
    ap (λ l. l ++ nodes_among rest) is ∙ append_assoc before (node_of_kind (inner_nodes g.depth rest) g.number g.what)
    (nodes_among rest)
    ∙ ap (λ l. before ++ nodes_among l) (sym here) ∙ so_far

pub all_listed : (gs : List Kept) (at : ℕ) (now : List FlatNode) → length gs ≤ at
    → now ++ nodes_among (drop at gs) ≡ nodes_among gs → now ≡ nodes_among gs
all_listed gs at now past so_far = sym (append-nil now) ∙ ap (λ l. now ++ nodes_among l) (sym (drop_past gs at past))
    ∙ so_far
