-- The calls that are made from siblings and counts are those of the definition.
use Rattle.std.proofs.Common.{◌≡◌, ℕ, zero, suc, ◌+◌, ◌-◌, ◌≤◌, ◌<◌, ◌==◌, Bool, true, false, ◌||◌, List, [], ◌∷◌, ◌++◌, map, length, take, get_or, set, Option, Some, None, cond, if◌then◌else◌, refl, ap, sym, ◌∙◌, subst, arith, append_assoc}
use Rattle.std.specs.Prelude.{slice_get}
use Rattle.std.specs.Option.{is_some}
use Rattle.std.proofs.lemmas.Bool.{eq-eqb, ne_eqb, true≢false, false≢true}
use Rattle.std.proofs.lemmas.List.{get_or_at, length-append}
use Rattle.rt_groups.specs.Nodes.{Nodes, Branch}
use Rattle.rt_groups.specs.Nodes as nodes
use Rattle.node_tree.specs.declared.ops.Op.{Op}
use Rattle.node_tree.specs.declared.ops.Op.TheVariants as op
use Rattle.node_tree.specs.NodeTrees.{TreeNode, tree_node, node_list}
use Rattle.node_tree.specs.Counting.{total}
use Rattle.node_tree.specs.Placing.{joined_calls, lists_number, numbered_node, node_index, nodes_without, removals, staying_nodes, move_to, new_node, arrangements, child_calls}
use Rattle.node_tree.specs.Premises.{HaveDistinctNumbers}
use Rattle.node_tree.specs.FlatNodes.{FlatNode, flat_node, flat_nodes}
use Rattle.node_tree.specs.SiblingLists.{siblings_of, index_in, kept_counts, removals_at, counted_nodes, distance_of, counts_after, insert_of, arrangement, arrange_at, sibling_calls}
use Rattle.node_tree.proofs.Numbers.{has_is_some, stays, staying_is_new, distinct_staying}
use Rattle.node_tree.proofs.ChildCalls.{Left, left_after_move, left_after_insert, has_first}
use Rattle.node_tree.proofs.CopiedNodes.{got_some}
use Rattle.node_tree.proofs.SiblingNodes.{is_some_index, IsNumberedAt, LooksUp, look_up}

-- For each old node 1 if it stays, else 0.
abbrev stay_counts : List TreeNode → List TreeNode → List ℕ
stay_counts new old = map (λ o. if lists_number o.number new then 1 else 0) old

counts_are : (o n : Nodes) (at : ℕ)
    → kept_counts (siblings_of 0 n) (siblings_of at o) ≡ stay_counts (node_list n) (node_list o)
counts_are nodes.None n at = refl
counts_are (Branch number kind attributes children rest) n at =
    ap (λ (b : Bool). (if b then 1 else 0) ∷ kept_counts (siblings_of 0 n)
    (siblings_of (at + 1 + length (flat_nodes children)) rest)) (is_some_index n number)
    ∙ ap (λ l. (if lists_number number (node_list n) then 1 else 0) ∷ l)
    (counts_are rest n (at + 1 + length (flat_nodes children)))

removals_are : (new old : List TreeNode) (i : ℕ) → removals_at i (stay_counts new old) ≡ removals i new old
removals_are new [] i = refl
removals_are new (o ∷ old) i = by (lists_number o.number new) (removals_are new old (i + 1))
  where
    by : (b : Bool) → removals_at (i + 1) (stay_counts new old) ≡ removals (i + 1) new old
        → removals_at (i + 1) (stay_counts new old) ++ (if (if b then 1 else 0) == 0 then op.Remove i 1 ∷ [] else [])
        ≡ removals (i + 1) new old ++ (if b then [] else op.Remove i 1 ∷ [])
    by true e = ap (λ l. l ++ []) e
    by false e = ap (λ l. l ++ op.Remove i 1 ∷ []) e

counted_are : (new old : List TreeNode) → counted_nodes (stay_counts new old) old ≡ staying_nodes new old
counted_are new [] = refl
counted_are new (o ∷ old) = by (lists_number o.number new) (counted_are new old)
  where
    by : (b : Bool) → counted_nodes (stay_counts new old) old ≡ staying_nodes new old
        → (if (if b then 1 else 0) == 0 then counted_nodes (stay_counts new old) old
        else o ∷ counted_nodes (stay_counts new old) old) ≡ cond b (o ∷ staying_nodes new old)
        (staying_nodes new old)
    by true e = ap (λ l. o ∷ l) e
    by false e = e

-- Each count is 0 or 1.
AreSmall : List ℕ → Type 0
AreSmall [] = Unit {0}
AreSmall (c ∷ cs) = (c ≤ 1) × AreSmall cs

small_counts : (new old : List TreeNode) → AreSmall (stay_counts new old)
unfolding AreSmall
small_counts new [] = tt
small_counts new (o ∷ old) = (by (lists_number o.number new), small_counts new old)
  where
    by : (b : Bool) → (if b then 1 else 0) ≤ 1
    by true = omega arith
    by false = omega arith

small_set : (cs : List ℕ) (i n : ℕ) → n ≤ 1 → AreSmall cs → AreSmall (set cs i n)
unfolding AreSmall
small_set [] i n le s = tt
small_set (c ∷ cs) zero n le s = (le, s.1)
small_set (c ∷ cs) (suc i) n le s = (s.0, small_set cs i n le s.1)

small_get : (cs : List ℕ) (i : ℕ) → AreSmall cs → get_or cs i 0 ≤ 1
unfolding AreSmall
small_get [] i s = omega arith
small_get (c ∷ cs) zero s = s.0
small_get (c ∷ cs) (suc i) s = small_get cs i s.1

numbered_there : (os : List TreeNode) (i q : ℕ) → IsNumberedAt os i q → lists_number q os ≡ true
numbered_there [] i q h = absurd h
numbered_there (o ∷ os) zero q h = ap (λ (b : Bool). b || lists_number q os) (eq-eqb o.number q h)
numbered_there (o ∷ os) (suc i) q h = by (o.number == q) (numbered_there os i q h)
  where
    by : (b : Bool) → lists_number q os ≡ true → (b || lists_number q os) ≡ true
    by true e = refl
    by false e = e

other_first : (o : TreeNode) (os : List TreeNode) (i q : ℕ) → lists_number o.number os ≡ false → IsNumberedAt os i q
    → (o.number == q) ≡ false
other_first o os i q lacks h =
    ne_eqb o.number q (λ e. true≢false (sym (numbered_there os i q h)
    ∙ ap (λ (j : ℕ). lists_number j os) (sym e) ∙ lacks))

counted_has : (cs : List ℕ) (os : List TreeNode) (q : ℕ) → lists_number q (counted_nodes cs os) ≡ true
    → lists_number q os ≡ true
counted_has [] os q h = absurd (false≢true h)
counted_has (c ∷ cs) [] q h = absurd (false≢true h)
counted_has (c ∷ cs) (o ∷ os) q h = by (c == 0) h (counted_has cs os q)
  where
    right : (b x : Bool) → x ≡ true → (b || x) ≡ true
    right true x e = refl
    right false x e = e

    both : (b : Bool) → (b || lists_number q (counted_nodes cs os)) ≡ true
        → (lists_number q (counted_nodes cs os) ≡ true → lists_number q os ≡ true) → (b || lists_number q os) ≡ true
    both true e go = refl
    both false e go = go e

    by : (b : Bool) → lists_number q (if b then counted_nodes cs os else o ∷ counted_nodes cs os) ≡ true
        → (lists_number q (counted_nodes cs os) ≡ true → lists_number q os ≡ true)
        → (o.number == q || lists_number q os) ≡ true
    by true e go = right (o.number == q) (lists_number q os) (go e)
    by false e go = both (o.number == q) e go

-- The count of a remaining node is not 0.
left_count : (os : List TreeNode) (cs : List ℕ) (i q : ℕ) → HaveDistinctNumbers os → IsNumberedAt os i q
    → lists_number q (counted_nodes cs os) ≡ true → 0 < get_or cs i 0
left_count os [] i q d at h = absurd (false≢true h)
left_count [] (c ∷ cs) i q d at h = absurd at
left_count (o ∷ os) (zero ∷ cs) zero q d at h =
    absurd (true≢false (sym (counted_has cs os q h) ∙ ap (λ (j : ℕ). lists_number j os) (sym at) ∙ d.0))
left_count (o ∷ os) (suc c ∷ cs) zero q d at h = omega arith
left_count (o ∷ os) (zero ∷ cs) (suc i) q d at h = left_count os cs i q d.1 at h
left_count (o ∷ os) (suc c ∷ cs) (suc i) q d at h =
    let some : (suc c == 0) ≡ false = ne_eqb (suc c) 0 (λ e. absurd (omega arith)) in
    left_count os cs i q d.1 at (
    sym (ap (λ (b : Bool). b || lists_number q (counted_nodes cs os)) (other_first o os i q d.0 at))
    ∙ sym (ap (λ (b : Bool). lists_number q (if b then counted_nodes cs os else o ∷ counted_nodes cs os)) some) ∙ h)

-- A remaining node has its index among the remaining nodes and its index among all.
record IsLeftAt (os : List TreeNode) (cs : List ℕ) (i q : ℕ) : Type 0 where
  index : node_index q (counted_nodes cs os) ≡ total (take i cs)
  rest : nodes_without q (counted_nodes cs os) ≡ counted_nodes (set cs i (get_or cs i 0 - 1)) os

left_at : (os : List TreeNode) (cs : List ℕ) (i q : ℕ) → HaveDistinctNumbers os → IsNumberedAt os i q → AreSmall cs
    → 0 < get_or cs i 0 → IsLeftAt os cs i q
unfolding AreSmall
left_at os [] i q d at s h = absurd (omega arith)
left_at [] (c ∷ cs) i q d at s h = absurd at
left_at (o ∷ os) (zero ∷ cs) zero q d at s h = absurd (omega arith)
left_at (o ∷ os) (suc zero ∷ cs) zero q d at s h =
    let here : (o.number == q) ≡ true = eq-eqb o.number q at in
    record {
      index = ap (λ (b : Bool). if b then 0 else 1 + node_index q (counted_nodes cs os)) here;
      rest = ap (λ (b : Bool). if b then counted_nodes cs os else o ∷ nodes_without q (counted_nodes cs os)) here;
    }
left_at (o ∷ os) (suc (suc c) ∷ cs) zero q d at s h = absurd (let le : suc (suc c) ≤ 1 = s.0 in omega arith)
left_at (o ∷ os) (zero ∷ cs) (suc i) q d at s h =
    let later = left_at os cs i q d.1 at s.1 h in
    record {
      index = later.index ∙ (let e : total (take i cs) ≡ 0 + total (take i cs) = omega arith in e);
      rest = later.rest;
    }
left_at (o ∷ os) (suc zero ∷ cs) (suc i) q d at s h =
    let later = left_at os cs i q d.1 at s.1 h in
    let apart : (o.number == q) ≡ false = other_first o os i q d.0 at in
    record {
      index = ap (λ (b : Bool). if b then 0 else 1 + node_index q (counted_nodes cs os)) apart
          ∙ ap (λ n. 1 + n) later.index;
      rest = ap (λ (b : Bool). if b then counted_nodes cs os else o ∷ nodes_without q (counted_nodes cs os)) apart
          ∙ ap (λ l. o ∷ l) later.rest;
    }
left_at (o ∷ os) (suc (suc c) ∷ cs) (suc i) q d at s h = absurd (let le : suc (suc c) ≤ 1 = s.0 in omega arith)

-- The calls for the new siblings from an index on.
arranged : (rest : Nodes) (o whole : Nodes) (counts : List ℕ) (front : List FlatNode) (index at : ℕ) → length front ≡ at
    → HaveDistinctNumbers (node_list o) → HaveDistinctNumbers (node_list rest) → AreSmall counts
    → Left (node_list o) (counted_nodes counts (node_list o)) (node_list rest)
    → arrange_at index (λ q. index_in q (siblings_of 0 o)) counts (front ++ flat_nodes rest) (siblings_of at rest)
    ≡ arrangements index (node_list o) (counted_nodes counts (node_list o)) (node_list rest)
arranged nodes.None o whole counts front index at e d new small left = refl
arranged (Branch number kind attributes children rest) o whole counts front index at e d new small left =
    by (lists_number number old) refl (numbered_node number old) refl (look_up o number d)
    (λ counts small left.
    ap (λ l. arrange_at (index + 1) (λ q. index_in q (siblings_of 0 o)) counts l (siblings_of later rest))
    (sym (append_assoc front (x ∷ flat_nodes children) (flat_nodes rest)))
    ∙ arranged rest o whole counts (front ++ (x ∷ flat_nodes children)) (index + 1) later
    (omega (arith, length-append front (x ∷ flat_nodes children))) d new.1 small left)
  where
    x : FlatNode
    x = flat_node (length (flat_nodes children)) number kind attributes

    n : TreeNode
    n = tree_node number kind attributes children

    later : ℕ
    later = at + 1 + length (flat_nodes children)

    old : List TreeNode
    old = node_list o

    find : ℕ → Option ℕ
    find q = index_in q (siblings_of 0 o)

    list : List FlatNode
    list = front ++ (x ∷ (flat_nodes children ++ flat_nodes rest))

    here : slice_get list at ≡ Some x
    here = got_some list at x (let h = length-append front (x ∷ (flat_nodes children ++ flat_nodes rest)) in
        omega (arith, h)) (sym (get_or_at front x (flat_nodes children ++ flat_nodes rest) x at e))

    Rest : Type 0
    Rest = (counts : List ℕ) → AreSmall counts → Left old (counted_nodes counts old) (node_list rest)
        → arrange_at (index + 1) find counts list (siblings_of later rest) ≡ arrangements (index + 1) old
        (counted_nodes counts old) (node_list rest)

    by : (b : Bool) → lists_number number old ≡ b → (t : Option TreeNode) → numbered_node number old ≡ t
        → LooksUp o number 0 0 [] None (find number) t → Rest
        → arrangement index (distance_of (find number) counts) (slice_get list at) ++ arrange_at (index + 1) find
        (counts_after (find number) counts) list (siblings_of later rest)
        ≡ (if b
        then move_to index (node_index number (counted_nodes counts old)) ++ arrangements (index + 1) old
        (nodes_without number (counted_nodes counts old)) (node_list rest)
        else op.InsertTopDown index (new_node n) ∷ arrangements (index + 1) old (counted_nodes counts old)
        (node_list rest))
    by true has None none looked go =
        absurd (true≢false (sym has ∙ has_is_some number old ∙ ap (λ (p : Option TreeNode). is_some p) none))
    by true has (Some t) some looked go =
        let i : ℕ = looked.index in
        let found : find number ≡ Some i = looked.is ∙ ap (λ k. Some k) (let same : 0 + i ≡ i = omega arith in same) in
        let there : lists_number number (counted_nodes counts old) ≡ true =
        has_is_some number (counted_nodes counts old)
        ∙ ap (λ (p : Option TreeNode). is_some p) (left.same number (has_first n (node_list rest)) ∙ some) in
        let more : 0 < get_or counts i 0 = left_count old counts i number d looked.numbered there in
        let out : (get_or counts i 0 == 0) ≡ false = ne_eqb (get_or counts i 0) 0 (λ e. absurd (omega arith)) in
        let place = left_at old counts i number d looked.numbered small more in
        let distance : distance_of (find number) counts ≡ Some (node_index number (counted_nodes counts old)) =
        ap (λ (k : Option ℕ). distance_of k counts) found
        ∙ ap (λ (b : Bool). if b then None else Some (total (take i counts))) out
        ∙ ap (λ k. Some k) (sym place.index) in
        let after : counts_after (find number) counts ≡ set counts i (get_or counts i 0 - 1) =
        ap (λ (k : Option ℕ). counts_after k counts) found in
        let less : get_or counts i 0 - 1 ≤ 1 = (let h = small_get counts i small in omega (arith, h)) in
        let next : Left old (counted_nodes (set counts i (get_or counts i 0 - 1)) old) (node_list rest) =
        subst (λ (l : List TreeNode). Left old l (node_list rest)) place.rest
        (left_after_move old (counted_nodes counts old) (node_list rest) n new.0 left) in
        ap (λ (k : Option ℕ). arrangement index k (slice_get list at) ++ arrange_at (index + 1) find
        (counts_after (find number) counts) list (siblings_of later rest)) distance
        ∙ ap (λ cs. move_to index (node_index number (counted_nodes counts old)) ++ arrange_at (index + 1) find cs list
        (siblings_of later rest)) after
        ∙ ap (λ l. move_to index (node_index number (counted_nodes counts old)) ++ l)
        (go (set counts i (get_or counts i 0 - 1)) (small_set counts i (get_or counts i 0 - 1) less small) next)
        ∙ ap (λ l. move_to index (node_index number (counted_nodes counts old)) ++ arrangements (index + 1) old l
        (node_list rest)) (sym place.rest)
    by false has (Some t) some looked go =
        absurd (false≢true (sym has ∙ has_is_some number old ∙ ap (λ (p : Option TreeNode). is_some p) some))
    by false has None none looked go =
        ap (λ (k : Option ℕ). arrangement index (distance_of k counts) (slice_get list at) ++ arrange_at
        (index + 1) find (counts_after k counts) list (siblings_of later rest)) looked
        ∙ ap (λ (k : Option FlatNode). insert_of index k ++ arrange_at (index + 1) find counts list
        (siblings_of later rest)) here
        ∙ ap (λ l. op.InsertTopDown index (new_node n) ∷ l)
        (go counts small (left_after_insert old (counted_nodes counts old) (node_list rest) n has left))

-- The calls of one level are those of the definition.
pub sibling_calls_are : (o n : Nodes) → HaveDistinctNumbers (node_list o) → HaveDistinctNumbers (node_list n)
    → sibling_calls (siblings_of 0 o) (siblings_of 0 n) (flat_nodes n) ≡ child_calls (node_list o) (node_list n)
sibling_calls_are o n d e =
    let old : List TreeNode = node_list o in
    let new : List TreeNode = node_list n in
    let find : ℕ → Option ℕ = λ q. index_in q (siblings_of 0 o) in
    let left : Left old (counted_nodes (stay_counts new old) old) new =
    subst (λ (l : List TreeNode). Left old l new) (sym (counted_are new old)) (record {
      same = λ j h. stays j new old h;
      all = λ j h. staying_is_new j new old h;
      distinct = distinct_staying new old d;
    }) in
    ap (λ (l : List Op). joined_calls l) (
    ap (λ cs. removals_at 0 cs ++ arrange_at 0 find cs (flat_nodes n) (siblings_of 0 n)) (counts_are o n 0)
    ∙ ap (λ l. l ++ arrange_at 0 find (stay_counts new old) (flat_nodes n) (siblings_of 0 n)) (removals_are new old 0)
    ∙ ap (λ l. removals 0 new old ++ l)
    (arranged n o n (stay_counts new old) [] 0 0 refl d e (small_counts new old) left)
    ∙ ap (λ l. removals 0 new old ++ arrangements 0 old l new) (counted_are new old))

small_total : (cs : List ℕ) → AreSmall cs → total cs ≤ length cs
unfolding AreSmall
small_total [] s = omega arith
small_total (c ∷ cs) s = let le : c ≤ 1 = s.0 in omega (arith, small_total cs s.1)
