-- The indexes of old siblings.
use Rattle.std.proofs.Common.{◌≡◌, ◌≤◌, ◌<◌, ℕ, zero, suc, ◌+◌, ◌-◌, ◌==◌, ◌&&◌, nat_le, nat_lt, Bool, true, false, List, [], ◌∷◌, ◌++◌, length, drop, drop-cons, length-drop, Some, if◌then◌else◌, refl, ap, sym, subst, ◌∙◌, arith, append_assoc, append-nil}
use Rattle.std.specs.Prelude.{slice_get}
use Rattle.std.proofs.lemmas.List.{drop_all}
use Rattle.std.proofs.lemmas.Bool.{true≢false, eqb-true, ltb-true, ltb-false, leb-true, leb-false, and_parts as both_true}
use Rattle.rt_groups.specs.declared.groups.Group.{Group}
use Rattle.rt_groups.specs.Paths.{GroupKey, same_sibling}
use Rattle.slot_table.specs.TableGroups.{group_at}
use Rattle.slot_table.specs.ReaderStates.{after_deep}
use Rattle.slot_table.specs.InnerCounts.{leading_deep}
use Rattle.composer.specs.OldSiblings.{sibling_key, sibling_indexes, level_indexes, is_level, infos_at, AreInside}

-- The groups inside a group and those after them are all groups after it.
leading_and_after : (d : ℕ) (gs : List Group) → length (leading_deep d gs) + length (after_deep d gs) ≡ length gs
leading_and_after d [] = refl
leading_and_after d (g ∷ gs) = by (nat_le d g.depth) (leading_and_after d gs)
  where
    by : (b : Bool) → length (leading_deep d gs) + length (after_deep d gs) ≡ length gs
        → length (if b then g ∷ leading_deep d gs else []) + length (if b then after_deep d gs else g ∷ gs)
        ≡ suc (length gs)
    by true e = omega (arith, e)
    by false e = omega arith

next_index : (groups rest : List Group) (g : Group) (i j : ℕ) → drop i groups ≡ g ∷ rest
    → drop j groups ≡ after_deep (g.depth + 1) rest → j ≤ length groups
    → j ≡ (i + 1) + length (leading_deep (g.depth + 1) rest)
next_index groups rest g i j here there le =
    let a : length (drop i groups) ≡ suc (length rest) = ap (λ l. length l) here in
    let b = length-drop i groups in
    let c : length (drop j groups) ≡ length (after_deep (g.depth + 1) rest) = ap (λ l. length l) there in
    let d = length-drop j groups in
    let whole = leading_and_after (g.depth + 1) rest in
    omega (arith, a, b, c, d, whole, le)

-- A group that is deeper than the siblings is passed over.
pub deeper : (s : GroupKey) (d i : ℕ) (g : Group) (gs : List Group) → d < g.depth
    → sibling_indexes s d i (g ∷ gs) ≡ sibling_indexes s d (i + 1) gs
deeper s d i g gs lt = by (g.depth == d) refl (nat_lt d g.depth) refl
  where
    by : (b : Bool) → (g.depth == d) ≡ b → (c : Bool) → nat_lt d g.depth ≡ c
        → (if b then (if same_sibling (sibling_key g) s then i ∷ sibling_indexes s d (i + 1) gs
        else sibling_indexes s d (i + 1) gs) else (if c then sibling_indexes s d (i + 1) gs else []))
        ≡ sibling_indexes s d (i + 1) gs
    by true e c f = absurd (let same = eqb-true g.depth d e in omega (arith, same, lt))
    by false e true f = refl
    by false e false f = absurd (let not = ltb-false d g.depth f in omega (arith, not, lt))

-- A group that is not deeper is a sibling, or the last sibling was before it.
pub level : (s : GroupKey) (d i : ℕ) (g : Group) (gs : List Group) → g.depth ≤ d
    → level_indexes s d i (g ∷ gs) ≡ sibling_indexes s d i (g ∷ gs)
level s d i g gs le = by (g.depth == d) (nat_lt d g.depth) refl
  where
    by : (b c : Bool) → nat_lt d g.depth ≡ c
        → (if b then (if b then (if same_sibling (sibling_key g) s then i ∷ sibling_indexes s d (i + 1) gs
        else sibling_indexes s d (i + 1) gs) else (if c then sibling_indexes s d (i + 1) gs else [])) else [])
        ≡ (if b then (if same_sibling (sibling_key g) s then i ∷ sibling_indexes s d (i + 1) gs
        else sibling_indexes s d (i + 1) gs) else (if c then sibling_indexes s d (i + 1) gs else []))
    by true c f = refl
    by false true f = absurd (let lt = ltb-true d g.depth f in omega (arith, lt, le))
    by false false f = refl

passed : (s : GroupKey) (d i j : ℕ) (gs : List Group) → j ≡ i + length (leading_deep (d + 1) gs)
    → level_indexes s d j (after_deep (d + 1) gs) ≡ sibling_indexes s d i gs
passed s d i j [] e = refl
passed s d i j (g ∷ gs) e = by (nat_le (d + 1) g.depth) refl e (λ f. passed s d (i + 1) j gs f)
  where
    by : (b : Bool) → nat_le (d + 1) g.depth ≡ b → j ≡ i + length (if b then g ∷ leading_deep (d + 1) gs else [])
        → (j ≡ (i + 1) + length (leading_deep (d + 1) gs)
        → level_indexes s d j (after_deep (d + 1) gs) ≡ sibling_indexes s d (i + 1) gs)
        → level_indexes s d j (if b then after_deep (d + 1) gs else g ∷ gs) ≡ sibling_indexes s d i (g ∷ gs)
    by true f at later =
        later (omega (arith, at)) ∙ sym (deeper s d i g gs (let le = leb-true (d + 1) g.depth f in omega (arith, le)))
    by false f at later =
        let same : j ≡ i = omega (arith, at) in
        ap (λ n. level_indexes s d n (g ∷ gs)) same
        ∙ level s d i g gs (let not = leb-false (d + 1) g.depth f in omega (arith, not))

-- The indexes from a sibling on: its own, and those after it.
pub level_step : (s : GroupKey) (groups : List Group) (d i j : ℕ) → is_level groups d i ≡ true
    → ((g : Group) (rest : List Group) → drop i groups ≡ g ∷ rest → drop j groups ≡ after_deep (g.depth + 1) rest)
    → j ≤ length groups
    → level_indexes s d i (drop i groups)
    ≡ (if same_sibling (sibling_key (group_at groups i)) s then i ∷ level_indexes s d j (drop j groups)
    else level_indexes s d j (drop j groups))
level_step s groups d i j e told le =
    let g : Group = group_at groups i in
    let rest : List Group = drop (suc i) groups in
    let both = both_true (nat_lt i (length groups)) (g.depth == d) e in
    let same : g.depth ≡ d = eqb-true g.depth d both.1 in
    let first : drop i groups ≡ g ∷ rest = drop-cons groups i (group_at [] i) (ltb-true i (length groups) both.0) in
    let after = told g rest first in
    let index = next_index groups rest g i j first after le in
    let later : level_indexes s d j (drop j groups) ≡ sibling_indexes s d (i + 1) rest =
    ap (λ l. level_indexes s d j l) (after ∙ ap (λ n. after_deep (n + 1) rest) same)
    ∙ passed s d (i + 1) j rest (index ∙ ap (λ n. (i + 1) + length (leading_deep (n + 1) rest)) same) in
    ap (λ l. level_indexes s d i l) first
    ∙ ap (λ b. if b then (if b then (if same_sibling (sibling_key g) s then i ∷ sibling_indexes s d (i + 1) rest
    else sibling_indexes s d (i + 1) rest) else (if nat_lt d g.depth then sibling_indexes s d (i + 1) rest else []))
    else []) both.1
    ∙ ap (λ l. if same_sibling (sibling_key g) s then i ∷ l else l) (sym later)

-- No sibling is left.
pub level_none : (s : GroupKey) (groups : List Group) (d i : ℕ) → is_level groups d i ≡ false
    → level_indexes s d i (drop i groups) ≡ []
level_none s groups d i e = by (nat_lt i (length groups)) refl e
  where
    by : (b : Bool) → nat_lt i (length groups) ≡ b → (b && ((group_at groups i).depth == d)) ≡ false
        → level_indexes s d i (drop i groups) ≡ []
    by false f none = ap (λ l. level_indexes s d i l)
        (drop_all i groups (let past = ltb-false i (length groups) f in omega (arith, past)))
    by true f none =
        ap (λ l. level_indexes s d i l) (drop-cons groups i (group_at [] i) (ltb-true i (length groups) f))
        ∙ ap (λ b. if b then sibling_indexes s d i (group_at groups i ∷ drop (suc i) groups) else []) none

-- The indexes are those of groups.
inside_from : (s : GroupKey) (groups : List Group) (d i : ℕ) (gs : List Group) → length gs ≤ length groups - i
    → AreInside groups (sibling_indexes s d i gs)
inside_from s groups d i [] le = tt
inside_from s groups d i (g ∷ gs) le = by (g.depth == d) (same_sibling (sibling_key g) s) (nat_lt d g.depth)
    (inside_from s groups d (i + 1) gs (omega (arith, le)))
  where
    by : (b c e : Bool) → AreInside groups (sibling_indexes s d (i + 1) gs)
        → AreInside groups (if b then (if c then i ∷ sibling_indexes s d (i + 1) gs else sibling_indexes s d (i + 1) gs)
        else (if e then sibling_indexes s d (i + 1) gs else []))
    by true true e later = (omega (arith, le), later)
    by true false e later = later
    by false c true later = later
    by false c false later = tt

pub are_inside : (s : GroupKey) (groups : List Group) (d i : ℕ) → AreInside groups (level_indexes s d i (drop i groups))
are_inside s groups d i = by (drop i groups) (let long = length-drop i groups in omega (arith, long))
  where
    at : (g : Group) (gs : List Group) (b : Bool) → AreInside groups (sibling_indexes s d i (g ∷ gs))
        → AreInside groups (if b then sibling_indexes s d i (g ∷ gs) else [])
    at g gs true all = all
    at g gs false all = tt

    by : (gs : List Group) → length gs ≤ length groups - i → AreInside groups (level_indexes s d i gs)
    by [] le = tt
    by (g ∷ gs) le = at g gs (g.depth == d) (inside_from s groups d i (g ∷ gs) le)

-- The queue after one more sibling.
pub queue_grows : (s : GroupKey) (groups : List Group) (d i j : ℕ) (t : GroupKey) (was now whole : List ℕ)
    → is_level groups d i ≡ true
    → ((g : Group) (rest : List Group) → drop i groups ≡ g ∷ rest → drop j groups ≡ after_deep (g.depth + 1) rest)
    → j ≤ length groups
    → t ≡ sibling_key (group_at groups i) → now ≡ (if same_sibling t s then was ++ i ∷ [] else was)
    → was ++ level_indexes s d i (drop i groups) ≡ whole → now ++ level_indexes s d j (drop j groups) ≡ whole
queue_grows s groups d i j t was now whole e told le is added so_far =
    by (same_sibling t s) added (sym (ap (λ l. was ++ l)
    (level_step s groups d i j e told le
    ∙ ap (λ x. if same_sibling x s then i ∷ level_indexes s d j (drop j groups)
    else level_indexes s d j (drop j groups)) (sym is))) ∙ so_far)
  where
    by : (b : Bool) → now ≡ (if b then was ++ i ∷ [] else was)
        → was ++ (if b then i ∷ level_indexes s d j (drop j groups) else level_indexes s d j (drop j groups)) ≡ whole
        → now ++ level_indexes s d j (drop j groups) ≡ whole
    by true f all = ap (λ l. l ++ level_indexes s d j (drop j groups)) f
        ∙ append_assoc was (i ∷ []) (level_indexes s d j (drop j groups)) ∙ all
    by false f all = ap (λ l. l ++ level_indexes s d j (drop j groups)) f ∙ all

-- The queue after the last sibling.
pub queue_is_whole : (s : GroupKey) (groups : List Group) (d i : ℕ) (was whole : List ℕ) → is_level groups d i ≡ false
    → was ++ level_indexes s d i (drop i groups) ≡ whole → was ≡ whole
queue_is_whole s groups d i was whole e so_far =
    sym (append-nil was) ∙ sym (ap (λ l. was ++ l) (level_none s groups d i e)) ∙ so_far

-- The next index is greater.
pub later_index : (groups : List Group) (d i j : ℕ) → is_level groups d i ≡ true
    → ((g : Group) (rest : List Group) → drop i groups ≡ g ∷ rest → drop j groups ≡ after_deep (g.depth + 1) rest)
    → j ≤ length groups → (i < length groups) × (i < j)
later_index groups d i j e told le =
    let inside = ltb-true i (length groups)
    (both_true (nat_lt i (length groups)) ((group_at groups i).depth == d) e).0 in
    let g : Group = group_at groups i in
    let rest : List Group = drop (suc i) groups in
    let first : drop i groups ≡ g ∷ rest = drop-cons groups i (group_at [] i) inside in
    let index = next_index groups rest g i j first (told g rest first) le in
    (inside, omega (arith, index))

pub level_inside : (groups : List Group) (d i : ℕ) → is_level groups d i ≡ true → i < length groups
level_inside groups d i e =
    ltb-true i (length groups) (both_true (nat_lt i (length groups)) ((group_at groups i).depth == d) e).0

-- A list of old groups by their indexes, without its first.
pub later_infos : (groups : List Group) (is : List ℕ) → infos_at groups (drop 1 is) ≡ drop 1 (infos_at groups is)
later_infos groups [] = refl
later_infos groups (i ∷ is) = refl

-- Each index of such a list is that of a group.
pub got_inside : (groups : List Group) (is : List ℕ) → AreInside groups is → (k i : ℕ) → slice_get is k ≡ Some i
    → i < length groups
got_inside groups [] all k i e = absurd cc
got_inside groups (j ∷ is) all zero i e = let same : j ≡ i = cc in subst (λ n. n < length groups) same all.0
got_inside groups (j ∷ is) all (suc k) i e = got_inside groups is all.1 k i e

got_later : (is : List ℕ) (k : ℕ) → slice_get (drop 1 is) k ≡ slice_get is (suc k)
got_later [] k = refl
got_later (i ∷ is) k = refl

-- The indexes after one was taken.
pub queue_kept : (count : ℕ) (b : Bool) (was now : List ℕ) → now ≡ (if b then drop 1 was else was)
    → ((k i : ℕ) → slice_get was k ≡ Some i → i < count) → (k i : ℕ) → slice_get now k ≡ Some i → i < count
queue_kept count true was now e all k i f = all (suc k) i (sym (got_later was k) ∙ sym (ap (λ l. slice_get l k) e) ∙ f)
queue_kept count false was now e all k i f = all k i (sym (ap (λ l. slice_get l k) e) ∙ f)

pub queued_left : (groups : List Group) (b : Bool) (was now : List ℕ) → now ≡ (if b then drop 1 was else was)
    → infos_at groups now ≡ (if b then drop 1 (infos_at groups was) else infos_at groups was)
queued_left groups true was now e = ap (λ l. infos_at groups l) e ∙ later_infos groups was
queued_left groups false was now e = ap (λ l. infos_at groups l) e

pub queue_taken : (groups : List Group) (q r b : Bool) (was now level : List ℕ) → q ≡ true → r ≡ true
    → now ≡ (if b then drop 1 was else was)
    → infos_at groups (if r then now else level)
    ≡ (if b then drop 1 (infos_at groups (if q then was else level)) else infos_at groups (if q then was else level))
queue_taken groups true true b was now level queued still e = queued_left groups b was now e
queue_taken groups true false b was now level queued still e = absurd (true≢false (sym still))
queue_taken groups false r b was now level queued still e = absurd (true≢false (sym queued))

-- The siblings after the next one was taken.
pub ordered_left : (groups : List Group) (b : Bool) (i : ℕ) (was now : List ℕ) → was ≡ (if b then i ∷ now else now)
    → infos_at groups now ≡ (if b then drop 1 (infos_at groups was) else infos_at groups was)
ordered_left groups true i was now e = sym (ap (λ l. drop 1 (infos_at groups l)) e)
ordered_left groups false i was now e = sym (ap (λ l. infos_at groups l) e)

pub next_taken : (groups : List Group) (q b : Bool) (i : ℕ) (queue was now : List ℕ) → q ≡ false
    → was ≡ (if b then i ∷ now else now)
    → infos_at groups (if q then queue else now)
    ≡ (if b then drop 1 (infos_at groups (if q then queue else was)) else infos_at groups (if q then queue else was))
next_taken groups true b i queue was now ordered e = absurd (true≢false ordered)
next_taken groups false b i queue was now ordered e = ordered_left groups b i was now e
