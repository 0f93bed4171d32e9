-- Removals, inserts and moves give the current node the new children.
use Rattle.std.proofs.Common.{◌≡◌, ℕ, ◌+◌, ◌≤◌, ◌<◌, ◌==◌, ltb, suc, Bool, true, false, ◌||◌, List, [], ◌∷◌, ◌++◌, map, length, take, drop, Option, Some, None, cond, if◌then◌else◌, refl, ap, sym, ◌∙◌, subst, arith, append_assoc}
use Rattle.std.specs.Option.{is_some}
use Rattle.std.proofs.lemmas.Bool.{eq-eqb, ne_eqb, true≢false, false≢true, cond-true, lt-ltb}
use Rattle.std.proofs.lemmas.List.{take_at, drop_at, length-append}
use Rattle.rt_groups.specs.GroupForest.{Attribute}
use Rattle.rt_groups.specs.PreorderGroups.{flat_attribute}
use Rattle.rt_groups.specs.Nodes as nodes
use Rattle.gap_buffer.specs.Buffer.{list_after_move, exchanged_list}
use Rattle.node_tree.specs.declared.ops.Op.TheVariants as op
use Rattle.node_tree.specs.NodeTrees.{TreeNode, tree_node, OpenNode}
use Rattle.node_tree.specs.Calls.{attribute_of, inserted_node}
use Rattle.node_tree.specs.Placing.{lists_number, numbered_node, node_index, nodes_without, removals, staying_nodes, move_to, new_node, arrangements, child_calls}
use Rattle.node_tree.specs.Premises.{HaveDistinctNumbers}
use Rattle.node_tree.proofs.Turning.{Turns, tree, none_turns, one_turns, then_turns, turns_from, turns_to, children_same}
use Rattle.node_tree.proofs.JoinedCalls.{go_left-append, removals_go_left, arrangements_go_left, joined_turn}
use Rattle.node_tree.proofs.Numbers.{has_is_some, split_at_number, other_numbered, still_has, distinct_without, gone_without, stays, staying_is_new, distinct_staying}

pushed : {X : Type 0} (done : List X) (x : X) (more : List X) → (done ++ x ∷ []) ++ more ≡ done ++ (x ∷ more)
pushed done x more = append_assoc done (x ∷ []) more

pushed_length : {X : Type 0} (done : List X) (x : X) (n : ℕ) → length done ≡ n → length (done ++ x ∷ []) ≡ n + 1
pushed_length done x n e = omega (arith, length-append done (x ∷ []))

removed : (done more : List TreeNode) (x : TreeNode) (os : List OpenNode) (index : ℕ) → length done ≡ index
    → Turns (tree (done ++ (x ∷ more)) os) (op.Remove index 1 ∷ []) (tree (done ++ more) os)
removed done more x os index e = one_turns (op.Remove index 1) _ _
    (omega (arith, length-append done (x ∷ more)))
    (children_same _ _ os (
    ap (λ l. l ++ drop (index + 1) (done ++ (x ∷ more))) (take_at done (x ∷ more) index e)
    ∙ ap (λ l. done ++ drop (index + 1) l) (sym (pushed done x more))
    ∙ ap (λ l. done ++ l) (drop_at (done ++ x ∷ []) more (index + 1) (pushed_length done x index e))))

pub removals_turn : (old new done : List TreeNode) (os : List OpenNode) (index : ℕ) → length done ≡ index
    → Turns (tree (done ++ old) os) (removals index new old) (tree (done ++ staying_nodes new old) os)
removals_turn [] new done os index e = none_turns _ _ refl
removals_turn (o ∷ old) new done os index e =
    then_turns _ _ _ _ _
    (turns_from _ _ _ _ (children_same _ _ os (sym (pushed done o old)))
    (removals_turn old new (done ++ o ∷ []) os (index + 1) (pushed_length done o index e)))
    (turns_from _ _ _ _ (children_same _ _ os (pushed done o (staying_nodes new old))) (by (lists_number o.number new)))
  where
    by : (b : Bool) → Turns (tree (done ++ (o ∷ staying_nodes new old)) os) (if b then [] else op.Remove index 1 ∷ [])
        (tree (done ++ cond b (o ∷ staying_nodes new old) (staying_nodes new old)) os)
    by true = none_turns _ _ refl
    by false = removed done (staying_nodes new old) o os index e

-- A new node with the attributes and children of the old node that has its number, or as it is inserted.
abbrev pub started_as : Option TreeNode → TreeNode → TreeNode
started_as None n = tree_node n.number n.kind n.attributes nodes.None
started_as (Some o) n = o

abbrev pub started : List TreeNode → TreeNode → TreeNode
started old n = started_as (numbered_node n.number old) n

pub attributes_back : (as_ : List Attribute) → map attribute_of (map flat_attribute as_) ≡ as_
attributes_back [] = refl
attributes_back (a ∷ as_) = ap (λ l. a ∷ l) (attributes_back as_)

inserted : (done rest : List TreeNode) (n : TreeNode) (os : List OpenNode) (index : ℕ) → length done ≡ index
    → Turns (tree (done ++ rest) os) (op.InsertTopDown index (new_node n) ∷ [])
    (tree (done ++ (started_as None n ∷ rest)) os)
inserted done rest n os index e = one_turns (op.InsertTopDown index (new_node n)) _ _
    (omega (arith, length-append done rest))
    (children_same _ _ os (
    ap (λ l. l ++ (inserted_node (new_node n) ∷ drop index (done ++ rest))) (take_at done rest index e)
    ∙ ap (λ l. done ++ (inserted_node (new_node n) ∷ l)) (drop_at done rest index e)
    ∙ ap (λ as_. done ++ (tree_node n.number n.kind as_ nodes.None ∷ rest)) (attributes_back n.attributes)))

-- The list after a node at index i + k moves to index i.
moved_list : {X : Type 0} (done before after : List X) (x : X) (i k : ℕ) → length done ≡ i → length before ≡ suc k
    → list_after_move (i + suc k) i 1 (done ++ (before ++ (x ∷ after))) ≡ done ++ (x ∷ (before ++ after))
moved_list {X} done before after x i k e f =
    let low : i < i + suc k = omega arith in
    let xs : List X = done ++ (before ++ (x ∷ after)) in
    let split : xs ≡ (done ++ before) ++ (x ∷ after) = sym (append_assoc done before (x ∷ after)) in
    let split_more : xs ≡ ((done ++ before) ++ x ∷ []) ++ after =
    split ∙ sym (append_assoc (done ++ before) (x ∷ []) after) in
    let long : length (done ++ before) ≡ i + suc k = omega (arith, length-append done before) in
    let longer : length ((done ++ before) ++ x ∷ []) ≡ i + suc k + 1 =
    omega (arith, length-append (done ++ before) (x ∷ []), long) in
    let first : take i xs ≡ done = take_at done (before ++ (x ∷ after)) i e in
    let second : drop (i + suc k) (take (i + suc k + 1) xs) ≡ x ∷ [] =
    ap (λ l. drop (i + suc k) (take (i + suc k + 1) l)) split_more
    ∙ ap (λ l. drop (i + suc k) l) (take_at ((done ++ before) ++ x ∷ []) after (i + suc k + 1) longer)
    ∙ drop_at (done ++ before) (x ∷ []) (i + suc k) long in
    let third : drop i (take (i + suc k) xs) ≡ before =
    ap (λ l. drop i (take (i + suc k) l)) split
    ∙ ap (λ l. drop i l) (take_at (done ++ before) (x ∷ after) (i + suc k) long)
    ∙ drop_at done before i e in
    let fourth : drop (i + suc k + 1) xs ≡ after =
    ap (λ l. drop (i + suc k + 1) l) split_more ∙ drop_at ((done ++ before) ++ x ∷ []) after (i + suc k + 1) longer in
    cond-true (ltb i (i + suc k)) (exchanged_list i (i + suc k) (i + suc k + 1) xs)
    (if ltb (i + suc k + 1) i then exchanged_list (i + suc k) (i + suc k + 1) i xs else xs)
    (lt-ltb i (i + suc k) low)
    ∙ ap (λ l. l ++ (drop (i + suc k) (take (i + suc k + 1) xs)
    ++ (drop i (take (i + suc k) xs) ++ drop (i + suc k + 1) xs))) first
    ∙ ap (λ l. done ++ (l ++ (drop i (take (i + suc k) xs) ++ drop (i + suc k + 1) xs))) second
    ∙ ap (λ l. done ++ (x ∷ (l ++ drop (i + suc k + 1) xs))) third
    ∙ ap (λ l. done ++ (x ∷ (before ++ l))) fourth

move_turns : (before done after : List TreeNode) (x : TreeNode) (os : List OpenNode) (index : ℕ) → length done ≡ index
    → Turns (tree (done ++ (before ++ (x ∷ after))) os) (move_to index (length before))
    (tree (done ++ (x ∷ (before ++ after))) os)
move_turns [] done after x os index e = none_turns _ _ refl
move_turns (y ∷ before) done after x os index e =
    let all : List TreeNode = done ++ ((y ∷ before) ++ (x ∷ after)) in
    let long : length all ≡ length done + (suc (length before) + suc (length after)) =
    length-append done ((y ∷ before) ++ (x ∷ after))
    ∙ ap (λ n. length done + n) (length-append (y ∷ before) (x ∷ after)) in
    let inside : (index + suc (length before) + 1 ≤ length all) × (index ≤ length all) =
    (omega (arith, long, e), omega (arith, long, e)) in
    one_turns (op.Move (index + suc (length before)) index 1) _ _ inside
    (children_same _ _ os (moved_list done (y ∷ before) after x index (length before) e refl))

-- The remaining old children when the rest of the new children is to be placed.
pub record Left (old rest new : List TreeNode) : Type 0 where
  pub same : (j : ℕ) → lists_number j new ≡ true → numbered_node j rest ≡ numbered_node j old
  pub all : (j : ℕ) → lists_number j rest ≡ true → lists_number j new ≡ true
  pub distinct : HaveDistinctNumbers rest

pub has_first : (n : TreeNode) (ns : List TreeNode) → lists_number n.number (n ∷ ns) ≡ true
has_first n ns = ap (λ (b : Bool). b || lists_number n.number ns) (eq-eqb n.number n.number refl)

has_later : (j : ℕ) (n : TreeNode) (ns : List TreeNode) → lists_number j ns ≡ true → lists_number j (n ∷ ns) ≡ true
has_later j n ns h = by (n.number == j)
  where
    by : (b : Bool) → (b || lists_number j ns) ≡ true
    by true = refl
    by false = h

has_rest : (j : ℕ) (n : TreeNode) (ns : List TreeNode) → (n.number ≡ j → ⊥) → lists_number j (n ∷ ns) ≡ true
    → lists_number j ns ≡ true
has_rest j n ns ne h = sym (ap (λ (b : Bool). b || lists_number j ns) (ne_eqb n.number j ne)) ∙ h

not_here : (j : ℕ) (n : TreeNode) (ns : List TreeNode) → lists_number n.number ns ≡ false → lists_number j ns ≡ true
    → n.number ≡ j → ⊥
not_here j n ns lacks h e = true≢false (sym h ∙ ap (λ (i : ℕ). lists_number i ns) (sym e) ∙ lacks)

pub left_after_move : (old rest new : List TreeNode) (n : TreeNode) → lists_number n.number new ≡ false
    → Left old rest (n ∷ new) → Left old (nodes_without n.number rest) new
left_after_move old rest new n lacks left = record {
  same = λ j h. other_numbered n.number j rest (not_here j n new lacks h) ∙ left.same j (has_later j n new h);
  all = λ j h. has_rest j n new
      (λ e. true≢false (sym h ∙ ap (λ (i : ℕ). lists_number i (nodes_without n.number rest)) (sym e)
      ∙ gone_without n.number rest left.distinct))
      (left.all j (still_has n.number j rest h));
  distinct = distinct_without n.number rest left.distinct;
}

pub left_after_insert : (old rest new : List TreeNode) (n : TreeNode) → lists_number n.number old ≡ false
    → Left old rest (n ∷ new) → Left old rest new
left_after_insert old rest new n lacks left = record {
  same = λ j h. left.same j (has_later j n new h);
  all = λ j h. has_rest j n new
      (λ e. true≢false (sym h ∙ ap (λ (i : ℕ). lists_number i rest) (sym e) ∙ has_is_some n.number rest
      ∙ ap (λ (o : Option TreeNode). is_some o) (left.same n.number (has_first n new))
      ∙ sym (has_is_some n.number old) ∙ lacks))
      (left.all j h);
  distinct = left.distinct;
}

none_left : (old rest : List TreeNode) → Left old rest [] → rest ≡ []
none_left old [] left = refl
none_left old (x ∷ rest) left = absurd (false≢true (left.all x.number (has_first x rest)))

none_from : (o : Option TreeNode) → is_some o ≡ false → o ≡ None
none_from None e = refl
none_from (Some x) e = absurd (true≢false e)

arrangements_turn : (new old rest done : List TreeNode) (os : List OpenNode) (index : ℕ) → length done ≡ index
    → HaveDistinctNumbers new → Left old rest new
    → Turns (tree (done ++ rest) os) (arrangements index old rest new) (tree (done ++ map (started old) new) os)
arrangements_turn [] old rest done os index e d left =
    none_turns _ _ (children_same _ _ os (ap (λ l. done ++ l) (none_left old rest left)))
arrangements_turn (n ∷ new) old rest done os index e d left =
    by (lists_number n.number old) refl
    (λ x rest left. turns_from _ _ _ _ (children_same _ _ os (sym (pushed done x rest)))
    (turns_to _ _ _ _ (children_same _ _ os (pushed done x (map (started old) new)))
    (arrangements_turn new old rest (done ++ x ∷ []) os (index + 1) (pushed_length done x index e) d.1 left)))
  where
    Goal : Bool → Type 0
    Goal b = Turns (tree (done ++ rest) os)
        (if b then move_to index (node_index n.number rest) ++ arrangements (index + 1) old
        (nodes_without n.number rest) new
        else op.InsertTopDown index (new_node n) ∷ arrangements (index + 1) old rest new)
        (tree (done ++ (started old n ∷ map (started old) new)) os)

    by : (b : Bool) → lists_number n.number old ≡ b
        → ((x : TreeNode) (rest : List TreeNode) → Left old rest new
        → Turns (tree (done ++ (x ∷ rest)) os) (arrangements (index + 1) old rest new)
        (tree (done ++ (x ∷ map (started old) new)) os))
        → Goal b
    by true is go =
        let found : numbered_node n.number rest ≡ numbered_node n.number old = left.same n.number (has_first n new) in
        let there : lists_number n.number rest ≡ true =
        has_is_some n.number rest ∙ ap (λ (o : Option TreeNode). is_some o) found
        ∙ sym (has_is_some n.number old) ∙ is in
        let s = split_at_number n.number rest there in
        let start : started old n ≡ s.node = ap (λ (o : Option TreeNode). started_as o n) (sym found ∙ s.found) in
        let first : Turns (tree (done ++ rest) os) (move_to index (node_index n.number rest))
        (tree (done ++ (s.node ∷ nodes_without n.number rest)) os) =
        turns_from _ _ _ _ (children_same _ _ os (ap (λ l. done ++ l) s.whole))
        (turns_to _ _ _ _ (children_same _ _ os (ap (λ l. done ++ (s.node ∷ l)) (sym s.left)))
        (subst (λ (i : ℕ). Turns (tree (done ++ (s.before ++ (s.node ∷ s.after))) os) (move_to index i)
        (tree (done ++ (s.node ∷ (s.before ++ s.after))) os)) s.index
        (move_turns s.before done s.after s.node os index e))) in
        turns_to _ _ _ _ (children_same _ _ os (ap (λ x. done ++ (x ∷ map (started old) new)) (sym start)))
        (then_turns _ _ _ _ _ first (go s.node (nodes_without n.number rest) (left_after_move old rest new n d.0 left)))
    by false is go =
        let none : numbered_node n.number old ≡ None =
        none_from (numbered_node n.number old) (sym (has_is_some n.number old) ∙ is) in
        let start : started old n ≡ started_as None n = ap (λ (o : Option TreeNode). started_as o n) none in
        turns_to _ _ _ _ (children_same _ _ os (ap (λ x. done ++ (x ∷ map (started old) new)) (sym start)))
        (then_turns (op.InsertTopDown index (new_node n) ∷ []) _ _ _ _ (inserted done rest n os index e)
        (go (started_as None n) rest (left_after_insert old rest new n is left)))

pub child_calls_turn : (old new : List TreeNode) (os : List OpenNode) → HaveDistinctNumbers old
    → HaveDistinctNumbers new
    → Turns (tree old os) (child_calls old new) (tree (map (started old) new) os)
child_calls_turn old new os d e =
    joined_turn _ _ _
    (go_left-append (removals 0 new old) (arrangements 0 old (staying_nodes new old) new)
    (removals_go_left old new 0) (arrangements_go_left new old (staying_nodes new old) 0))
    (then_turns _ _ _ _ _ (removals_turn old new [] os 0 refl)
    (arrangements_turn new old (staying_nodes new old) [] os 0 refl e (record {
      same = λ j h. stays j new old h;
      all = λ j h. staying_is_new j new old h;
      distinct = distinct_staying new old d;
    })))
