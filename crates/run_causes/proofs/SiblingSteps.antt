-- From one sibling of a table to the next, and the siblings inside a group.
use Rattle.std.proofs.Common.{◌≡◌, ◌≤◌, ◌<◌, ℕ, zero, suc, ◌+◌, ◌==◌, nat_le, nat_lt, Bool, true, false, List, [], ◌∷◌, ◌++◌, length, length-append, length-drop, drop, if◌then◌else◌, refl, ap, sym, ◌∙◌, arith, append_assoc, append-nil}
use Rattle.std.proofs.lemmas.Bool.{true≢false, le-leb, leb-true, eqb-true, eqb-false, ltb-true, ltb-false, false_from_ne_true as is_false}
use Rattle.std.proofs.lemmas.List.{drop-drop, drop_at}
use Rattle.rt_groups.specs.declared.groups.Group.{Group as TableGroup}
use Rattle.rt_groups.specs.GroupForest.{GroupForest, End, Read, Group, how_many}
use Rattle.rt_groups.specs.PreorderGroups.{preorder, flat_group, flat_kind, flat_reads}
use Rattle.rt_groups.specs.Paths.{GroupKey, sibling, same_sibling}
use Rattle.slot_table.specs.TableGroups.{group_at}
use Rattle.slot_table.specs.ReaderStates.{after_deep, begins_at}
use Rattle.run_causes.specs.OldMatches.{table_key, key_indexes, inside_at, AreSiblings}
use Rattle.run_causes.proofs.OldForests.{key_kept, preorder_count}

-- The group at an index, and those after it.
pub next_of : (groups gs : List TableGroup) (g : TableGroup) (i : ℕ) → drop i groups ≡ g ∷ gs
    → (group_at groups i ≡ g) × (drop (suc i) groups ≡ gs)
next_of [] gs g zero e = absurd cc
next_of [] gs g (suc i) e = absurd cc
next_of (h ∷ hs) gs g zero e = (cc, cc)
next_of (h ∷ hs) gs g (suc i) e = next_of hs gs g i e

-- The groups of a forest at a depth are not less deep.
past_forest : (e k : ℕ) (t : GroupForest) (more : List TableGroup) → e ≤ k
    → after_deep e (preorder k t ++ more) ≡ after_deep e more
past_forest e k End more le = refl
past_forest e k (Read x rest) more le = past_forest e k rest more le
past_forest e k (Group site number what inside rest) more le =
    ap (λ b. if b then after_deep e ((preorder (k + 1) inside ++ preorder k rest) ++ more)
    else flat_group k site number (flat_kind what) (flat_reads what inside)
    ∷ ((preorder (k + 1) inside ++ preorder k rest) ++ more)) (le-leb e k le)
    ∙ ap (λ l. after_deep e l) (append_assoc (preorder (k + 1) inside) (preorder k rest) more)
    ∙ past_forest e (k + 1) inside (preorder k rest ++ more) (omega (arith, le)) ∙ past_forest e k rest more le

past_none : (e : ℕ) (gs : List TableGroup) → begins_at e gs ≡ false → after_deep e gs ≡ gs
past_none e [] h = refl
past_none e (g ∷ gs) h = ap (λ b. if b then after_deep e gs else g ∷ gs) h

-- A forest at a depth, and what follows if that is not deeper, begins with no deeper group.
begins_level : (d : ℕ) (t : GroupForest) (more : List TableGroup) → begins_at (d + 1) more ≡ false
    → begins_at (d + 1) (preorder d t ++ more) ≡ false
begins_level d End more h = h
begins_level d (Read x rest) more h = begins_level d rest more h
begins_level d (Group site number what inside rest) more h =
    is_false (nat_le (d + 1) d) (λ e. let le = leb-true (d + 1) d e in omega (arith, le))

deep_count : (e : ℕ) (gs : List TableGroup) → length (after_deep e gs) ≤ length gs
deep_count e [] = omega arith
deep_count e (g ∷ gs) = by (nat_le e g.depth) (deep_count e gs)
  where
    by : (b : Bool) → length (after_deep e gs) ≤ length gs
        → length (if b then after_deep e gs else g ∷ gs) ≤ suc (length gs)
    by true le = omega (arith, le)
    by false le = omega arith

pub split_at : (groups : List TableGroup) (i : ℕ) → i < length groups
    → drop i groups ≡ group_at groups i ∷ drop (suc i) groups
split_at [] i lt = absurd (omega (arith, lt))
split_at (g ∷ gs) zero lt = refl
split_at (g ∷ gs) (suc i) lt = split_at gs i (omega (arith, lt))

-- What `index_after` says of the index j after the group at index i.
abbrev pub IsAfter : List TableGroup → ℕ → ℕ → Type 0
IsAfter groups i j = (g : TableGroup) (rest : List TableGroup) → drop i groups ≡ g ∷ rest
    → drop j groups ≡ after_deep (g.depth + 1) rest

pub later_index : (groups : List TableGroup) (i j : ℕ) → i < length groups → IsAfter groups i j → j ≤ length groups
    → i < j
later_index groups i j lt after le =
    let g : TableGroup = group_at groups i in
    let rest : List TableGroup = drop (suc i) groups in
    let is : length (drop j groups) ≡ length (after_deep (g.depth + 1) rest) =
    ap (λ l. length l) (after g rest (split_at groups i lt)) in
    let few = deep_count (g.depth + 1) rest in
    let one = length-drop j groups in
    let two = length-drop (suc i) groups in
    omega (arith, is, few, one, two, le, lt)

-- The next sibling of a table, and the indexes of the siblings from this one on.
pub record HasNext (groups : List TableGroup) (depth i j to : ℕ) (t : GroupForest) : Type 0 where
  pub rest : GroupForest
  pub siblings : AreSiblings groups depth j to rest
  pub indexes : (s : GroupKey) → key_indexes s i t
      ≡ (if same_sibling (table_key (group_at groups i)) s then i ∷ key_indexes s j rest else key_indexes s j rest)

pub next_sibling : (groups : List TableGroup) (depth i j to : ℕ) (t : GroupForest)
    → AreSiblings groups depth i to t → i < to → IsAfter groups i j → j ≤ length groups
    → HasNext groups depth i j to t
next_sibling groups d i j to End h lt after le = absurd (let count = h.count in omega (arith, count, lt))
next_sibling groups d i j to (Read x rest) h lt after le =
    let next = next_sibling groups d i j to rest
    (record { more = h.more; is = h.is; count = h.count; ends = h.ends }) lt after le in
    record { rest = next.rest; siblings = next.siblings; indexes = next.indexes }
next_sibling groups d i j to (Group site number what inside rest) h lt after le =
    let g : TableGroup = flat_group d site number (flat_kind what) (flat_reads what inside) in
    let within : List TableGroup = preorder (d + 1) inside in
    let later : List TableGroup = preorder d rest in
    let first = next_of groups ((within ++ later) ++ h.more) g i h.is in
    let next : drop j groups ≡ later ++ h.more =
    after g ((within ++ later) ++ h.more) h.is
    ∙ ap (λ l. after_deep (d + 1) l) (append_assoc within later h.more)
    ∙ past_forest (d + 1) (d + 1) inside (later ++ h.more) (omega arith)
    ∙ past_none (d + 1) (later ++ h.more) (begins_level d rest h.more h.ends) in
    let a : length (drop i groups) ≡ suc (length ((within ++ later) ++ h.more)) = ap (λ l. length l) h.is in
    let b = length-append (within ++ later) h.more in
    let c = length-append within later in
    let e : length (drop j groups) ≡ length (later ++ h.more) = ap (λ l. length l) next in
    let f = length-append later h.more in
    let one = length-drop i groups in
    let two = length-drop j groups in
    let many = preorder_count (d + 1) inside in
    let count = h.count in
    let place : j ≡ (i + 1) + how_many inside = omega (arith, a, b, c, e, f, one, two, many, le) in
    let key : table_key (group_at groups i) ≡ sibling site what =
    ap table_key first.0 ∙ key_kept d site number what (flat_reads what inside) in
    record {
      rest = rest;
      siblings = record { more = h.more; is = next; count = omega (arith, count, place); ends = h.ends };
      indexes = λ s.
          ap (λ n. if same_sibling (sibling site what) s then i ∷ key_indexes s n rest else key_indexes s n rest)
          (sym place)
          ∙ ap (λ x. if same_sibling x s then i ∷ key_indexes s j rest else key_indexes s j rest) (sym key);
    }

-- All siblings of a whole table.
pub all_siblings : (groups : List TableGroup) (t : GroupForest) (n : ℕ) → groups ≡ preorder 0 t → n ≡ length groups
    → AreSiblings groups 0 0 n t
all_siblings groups t n e long =
    let count : length groups ≡ length (preorder 0 t) = ap (λ l. length l) e in
    let many = preorder_count 0 t in
    record {
      more = [];
      is = e ∙ sym (append-nil (preorder 0 t));
      count = omega (arith, count, many, long);
      ends = refl;
    }

-- The group at an index of a forest, with the groups inside it and those after them.
pub record HasGroupAt (groups : List TableGroup) (i : ℕ) (inside : GroupForest) : Type 0 where
  pub depth : ℕ
  pub group : TableGroup
  pub more : List TableGroup
  pub is : drop i groups ≡ group ∷ (preorder (depth + 1) inside ++ more)
  pub depth_is : group.depth ≡ depth
  pub ends : begins_at (depth + 1) more ≡ false

-- The queue after one more sibling.
pub queue_grows : (groups : List TableGroup) (depth i j to : ℕ) (t : GroupForest) (h : HasNext groups depth i j to t)
    (s x : GroupKey) (was now whole : List ℕ) → x ≡ table_key (group_at groups i)
    → now ≡ (if same_sibling x s then was ++ i ∷ [] else was) → was ++ key_indexes s i t ≡ whole
    → now ++ key_indexes s j h.rest ≡ whole
queue_grows groups depth i j to t h s x was now whole is added so_far =
    by (same_sibling x s) added (sym (ap (λ l. was ++ l) (h.indexes s
    ∙ ap (λ y. if same_sibling y s then i ∷ key_indexes s j h.rest else key_indexes s j h.rest) (sym is))) ∙ so_far)
  where
    by : (b : Bool) → now ≡ (if b then was ++ i ∷ [] else was)
        → was ++ (if b then i ∷ key_indexes s j h.rest else key_indexes s j h.rest) ≡ whole
        → now ++ key_indexes s j h.rest ≡ whole
    by true e all = ap (λ l. l ++ key_indexes s j h.rest) e ∙ append_assoc was (i ∷ []) (key_indexes s j h.rest) ∙ all
    by false e all = ap (λ l. l ++ key_indexes s j h.rest) e ∙ all

-- No sibling is left at the end.
pub queue_is_whole : (groups : List TableGroup) (depth i to : ℕ) (t : GroupForest) → AreSiblings groups depth i to t
    → to ≤ i → (s : GroupKey) → key_indexes s i t ≡ []
queue_is_whole groups depth i to End h le s = refl
queue_is_whole groups depth i to (Read x rest) h le s =
    queue_is_whole groups depth i to rest (record { more = h.more; is = h.is; count = h.count; ends = h.ends }) le s
queue_is_whole groups depth i to (Group site number what inside rest) h le s =
    absurd (let count = h.count in omega (arith, count, le))

above : (i k : ℕ) → k ≤ i → (i ≡ k → ⊥) → k + 1 ≤ i
above i k le other = by (nat_lt k i) refl
  where
    by : (b : Bool) → nat_lt k i ≡ b → k + 1 ≤ i
    by true e = let lt = ltb-true k i e in omega (arith, lt)
    by false e = let not = ltb-false k i e in absurd (other (omega (arith, not, le)))

-- A list that begins with no group of a depth begins with no deeper one.
shallower : (e : ℕ) (gs : List TableGroup) → begins_at e gs ≡ false → begins_at (e + 1) gs ≡ false
shallower e [] h = refl
shallower e (g ∷ gs) h = is_false (nat_le (e + 1) g.depth) (λ t.
    let le = leb-true (e + 1) g.depth t in
    absurd (true≢false (sym (le-leb e g.depth (omega (arith, le))) ∙ h)))

pub group_inside : (groups more : List TableGroup) (d k i : ℕ) (t : GroupForest) → drop k groups ≡ preorder d t ++ more
    → begins_at (d + 1) more ≡ false → k ≤ i → i < k + how_many t → HasGroupAt groups i (inside_at i k t)
group_inside groups more d k i End e ends le lt = absurd (omega (arith, le, lt))
group_inside groups more d k i (Read x rest) e ends le lt = group_inside groups more d k i rest e ends le lt
group_inside groups more d k i (Group site number what inside rest) e ends le lt =
    by (i == k) refl (nat_lt i ((k + 1) + how_many inside)) refl
    (λ le lt. group_inside groups (later ++ more) (d + 1) (k + 1) i inside within_is
    (shallower (d + 1) (later ++ more) (begins_level d rest more ends)) le lt)
    (λ le lt. group_inside groups more d ((k + 1) + how_many inside) i rest later_is ends le lt)
  where
    g : TableGroup
    g = flat_group d site number (flat_kind what) (flat_reads what inside)

    within : List TableGroup
    within = preorder (d + 1) inside

    later : List TableGroup
    later = preorder d rest

    within_is : drop (k + 1) groups ≡ within ++ (later ++ more)
    within_is = let one : k + 1 ≡ suc k = omega arith in
        ap (λ n. drop n groups) one ∙ (next_of groups ((within ++ later) ++ more) g k e).1
        ∙ append_assoc within later more

    later_is : drop ((k + 1) + how_many inside) groups ≡ later ++ more
    later_is = sym (drop-drop (how_many inside) (k + 1) groups) ∙ ap (λ l. drop (how_many inside) l) within_is
        ∙ drop_at within (later ++ more) (how_many inside) (preorder_count (d + 1) inside)

    here : i ≡ k → HasGroupAt groups i inside
    here same = record {
      depth = d;
      group = g;
      more = later ++ more;
      is = ap (λ n. drop n groups) same ∙ e ∙ ap (λ l. g ∷ l) (append_assoc within later more);
      depth_is = refl;
      ends = begins_level d rest more ends;
    }

    by : (b : Bool) → (i == k) ≡ b → (c : Bool) → nat_lt i ((k + 1) + how_many inside) ≡ c
        → (k + 1 ≤ i → i < (k + 1) + how_many inside → HasGroupAt groups i (inside_at i (k + 1) inside))
        → ((k + 1) + how_many inside ≤ i → i < ((k + 1) + how_many inside) + how_many rest
        → HasGroupAt groups i (inside_at i ((k + 1) + how_many inside) rest))
        → HasGroupAt groups i (if b then inside else (if c then inside_at i (k + 1) inside
        else inside_at i ((k + 1) + how_many inside) rest))
    by true b c f deeper after = here (eqb-true i k b)
    by false b true f deeper after =
        let other = eqb-false i k b in
        let less = ltb-true i ((k + 1) + how_many inside) f in
        deeper (above i k le other) less
    by false b false f deeper after =
        let not = ltb-false i ((k + 1) + how_many inside) f in
        after (omega (arith, not)) (omega (arith, lt))

-- The groups directly inside a group of the table.
pub inner_siblings : (groups : List TableGroup) (i j : ℕ) (inside : GroupForest) (h : HasGroupAt groups i inside)
    → i < length groups → IsAfter groups i j → j ≤ length groups → AreSiblings groups (h.depth + 1) (i + 1) j inside
inner_siblings groups i j inside h lt after le =
    let d : ℕ = h.depth in
    let within : List TableGroup = preorder (d + 1) inside in
    let one : i + 1 ≡ suc i = omega arith in
    let is : drop (i + 1) groups ≡ within ++ h.more =
    ap (λ n. drop n groups) one ∙ (next_of groups (within ++ h.more) h.group i h.is).1 in
    let next : drop j groups ≡ h.more =
    after h.group (within ++ h.more) h.is ∙ ap (λ n. after_deep (n + 1) (within ++ h.more)) h.depth_is
    ∙ past_forest (d + 1) (d + 1) inside h.more (omega arith) ∙ past_none (d + 1) h.more h.ends in
    let a : length (drop (i + 1) groups) ≡ length (within ++ h.more) = ap (λ l. length l) is in
    let b = length-append within h.more in
    let c : length (drop j groups) ≡ length h.more = ap (λ l. length l) next in
    let f = length-drop (i + 1) groups in
    let e = length-drop j groups in
    let many = preorder_count (d + 1) inside in
    record { more = h.more; is = is; count = omega (arith, a, b, c, f, e, many, le, lt); ends = shallower (d + 1) h.more h.ends }
