-- Old groups that follow each other, in which no call is owed.
use Rattle.std.proofs.Common.{◌≡◌, ◌≤◌, ◌<◌, ℕ, zero, suc, ◌+◌, ◌-◌, nat_le, Bool, true, false, ◌||◌, if◌then◌else◌, List, [], ◌∷◌, ◌++◌, length, length-append, length-drop, take, drop, drop-cons, get_or, refl, ap, sym, ◌∙◌, arith, append_assoc, append-nil}
use Rattle.std.proofs.lemmas.Bool.{true≢false, leb-false}
use Rattle.std.proofs.lemmas.List.{drop-drop, get_or-drop, drop_all}
use Rattle.rt_values.specs.Maps.{Map, contains}
use Rattle.rt_groups.specs.declared.groups.Group.{Group as TableGroup}
use Rattle.rt_groups.specs.GroupForest.{GroupForest, End, Read, Group, GroupKind, Call, Node, Key, Cell}
use Rattle.rt_groups.specs.PreorderGroups.{flat_kind, flat_reads, flat_group, preorder}
use Rattle.rt_groups.specs.Frames.{meets}
use Rattle.recompose_scopes.specs.Scopes.{own_reads, reads_at}
use Rattle.recompose_scopes.specs.Owed.{IsOwedList}
use Rattle.lang_ast.specs.Terms.{Func}
use Rattle.recompose_laws.specs.Refreshing.{is_owed}
use Rattle.recompose_laws.specs.Numbering.{kept_number}
use Rattle.recompose_laws.specs.Idle.{IsNumbered}
use Rattle.slot_table.specs.TableGroups.{group_at}
use Rattle.slot_table.specs.ReaderStates.{after_deep}
use Rattle.composer.specs.ComposerState.{ComposerState, put_group, skipped_inside, skipped_groups}
use Rattle.composer.specs.QuietRuns.{has_owed, group_run, with_run, IsLevelEnd}
use Rattle.composer.proofs.Machine.{same_state}

-- Neither list has an owed object among its reads.

pub none_of_both : (a b : Bool) → (a || b) ≡ false → (a ≡ false) × (b ≡ false)
none_of_both true b e = absurd cc
none_of_both false b e = (refl, e)

pub owed_parts : (owed : List ℕ) (xs ys : List TableGroup) → has_owed owed (xs ++ ys) ≡ false
    → (has_owed owed xs ≡ false) × (has_owed owed ys ≡ false)
owed_parts owed [] ys e = (refl, e)
owed_parts owed (x ∷ xs) ys e =
    let first = none_of_both (meets x.reads owed) (has_owed owed (xs ++ ys)) e in
    let rest = owed_parts owed xs ys first.1 in (
      ap (λ b. b || has_owed owed xs) first.0 ∙ rest.0,
      rest.1,
    )

-- One run after another.

pub run_none : (s : ComposerState) → with_run [] s ≡ s
run_none s = same_state (append-nil s.groups) refl refl refl refl refl

pub run_both : (xs ys : List TableGroup) (s : ComposerState) → with_run ys (with_run xs s) ≡ with_run (xs ++ ys) s
run_both xs ys s = same_state (append_assoc s.groups xs ys) refl refl refl refl refl

run_put : (g : TableGroup) (gs : List TableGroup) (s : ComposerState)
    → with_run gs (put_group g s.next s) ≡ with_run (g ∷ gs) s
run_put g gs s = same_state (append_assoc s.groups (g ∷ []) gs) refl refl refl refl refl

-- Skipping the groups of a forest in which no call is owed keeps them.

abbrev KeepsInside : Map → List ℕ → GroupForest → ℕ → Type 0
KeepsInside m owed inside d =
    (fs : List Func) (s : ComposerState) → skipped_groups m owed inside fs d s ≡ with_run (preorder d inside) s

pub quiet_inside : (m : Map) (owed : List ℕ) (what : GroupKind) (d site n : ℕ) (inside : GroupForest) (fs : List Func)
    (s : ComposerState) → n ≡ kept_number what n → meets (flat_reads what inside) owed ≡ false
    → KeepsInside m owed inside (d + 1) →
    skipped_inside m owed fs d site n what (is_owed owed inside) inside (skipped_groups m owed inside) s
    ≡ with_run (flat_group d site n (flat_kind what) (flat_reads what inside) ∷ preorder (d + 1) inside) s
quiet_inside m owed (Call f vs) d site n inside fs s number quiet keeps =
    let g : TableGroup = flat_group d site 0 (flat_kind (Call f vs)) (flat_reads (Call f vs) inside) in
    ap (λ b. skipped_inside m owed fs d site n (Call f vs) b inside (skipped_groups m owed inside) s) quiet
    ∙ keeps _ (put_group g s.next s)
    ∙ run_put g (preorder (d + 1) inside) s
    ∙ ap (λ k. with_run (flat_group d site k (flat_kind (Call f vs)) (flat_reads (Call f vs) inside) ∷ preorder (d + 1)
    inside) s) (sym number)
quiet_inside m owed (Node kind attributes) d site n inside fs s number quiet keeps =
    let g : TableGroup = flat_group d site n (flat_kind (Node kind attributes)) [] in
    keeps _ (put_group g s.next s) ∙ run_put g (preorder (d + 1) inside) s
quiet_inside m owed (Key v) d site n inside fs s number quiet keeps =
    let g : TableGroup = flat_group d site 0 (flat_kind (Key v)) [] in
    keeps _ (put_group g s.next s)
    ∙ run_put g (preorder (d + 1) inside) s
    ∙ ap (λ k. with_run (flat_group d site k (flat_kind (Key v)) [] ∷ preorder (d + 1) inside) s) (sym number)
quiet_inside m owed (Cell ks v) d site n inside fs s number quiet keeps =
    let g : TableGroup = flat_group d site 0 (flat_kind (Cell ks v)) [] in
    keeps _ (put_group g s.next s)
    ∙ run_put g (preorder (d + 1) inside) s
    ∙ ap (λ k. with_run (flat_group d site k (flat_kind (Cell ks v)) [] ∷ preorder (d + 1) inside) s) (sym number)

pub quiet_kept : (m : Map) (owed : List ℕ) (t : GroupForest) (d : ℕ) → IsNumbered t → has_owed owed (preorder d t) ≡ false
    → KeepsInside m owed t d
quiet_kept m owed End d numbered quiet fs s = sym (run_none s)
quiet_kept m owed (Read x rest) d numbered quiet fs s = quiet_kept m owed rest d numbered quiet fs s
quiet_kept m owed (Group site n what inside rest) d numbered quiet fs s =
    let g : TableGroup = flat_group d site n (flat_kind what) (flat_reads what inside) in
    let first = none_of_both (meets (flat_reads what inside) owed)
    (has_owed owed (preorder (d + 1) inside ++ preorder d rest)) quiet in
    let both = owed_parts owed (preorder (d + 1) inside) (preorder d rest) first.1 in
    ap (λ q. skipped_groups m owed rest fs d q)
    (quiet_inside m owed what d site n inside fs s numbered.0 first.0
    (quiet_kept m owed inside (d + 1) numbered.1 both.0))
    ∙ quiet_kept m owed rest d numbered.2 both.1 fs (with_run (g ∷ preorder (d + 1) inside) s)
    ∙ run_both (g ∷ preorder (d + 1) inside) (preorder d rest) s

-- Runs of a list, by their indexes.

front_taken : (xs ys : List TableGroup) (n : ℕ) → n ≡ length xs → take n (xs ++ ys) ≡ xs
front_taken [] [] zero e = refl
front_taken [] (y ∷ ys) zero e = refl
front_taken [] ys (suc n) e = absurd cc
front_taken (x ∷ xs) ys zero e = absurd cc
front_taken (x ∷ xs) ys (suc n) e = ap (λ l. x ∷ l) (front_taken xs ys n (omega (arith, e)))

run_length : (groups : List TableGroup) (i j : ℕ) (xs ys : List TableGroup) → i ≤ j → j ≤ length groups
    → drop i groups ≡ xs ++ ys → drop j groups ≡ ys → j - i ≡ length xs
run_length groups i j xs ys low inside all later =
    let a = length-drop i groups in
    let b = length-drop j groups in
    let c = ap (λ (l : List TableGroup). length l) all in
    let d = ap (λ (l : List TableGroup). length l) later in
    let e = length-append xs ys in
    omega (arith, low, inside, a, b, c, d, e)

-- A list that begins with some groups, up to the index after them.
pub run_is : (groups : List TableGroup) (i j : ℕ) (xs ys : List TableGroup) → i ≤ j → j ≤ length groups
    → drop i groups ≡ xs ++ ys → drop j groups ≡ ys → group_run groups i j ≡ xs
run_is groups i j xs ys low inside all later =
    ap (λ l. take (j - i) l) all ∙ front_taken xs ys (j - i) (run_length groups i j xs ys low inside all later)

take_sum : (gs : List TableGroup) (a b : ℕ) → take (a + b) gs ≡ take a gs ++ take b (drop a gs)
take_sum gs zero b = let sum : 0 + b ≡ b = omega arith in ap (λ n. take n gs) sum
take_sum [] (suc a) b = nothing ((suc a) + b) ∙ sym (nothing b)
  where
    nothing : (n : ℕ) → take {A = TableGroup} n [] ≡ []
    nothing zero = refl
    nothing (suc n) = refl
take_sum (g ∷ gs) (suc a) b =
    let sum : suc a + b ≡ suc (a + b) = omega arith in
    ap (λ n. take n (g ∷ gs)) sum ∙ ap (λ l. g ∷ l) (take_sum gs a b)

pub runs_joined : (groups : List TableGroup) (i j k : ℕ) → i ≤ j → j ≤ k
    → group_run groups i k ≡ group_run groups i j ++ group_run groups j k
runs_joined groups i j k low high =
    let sum : k - i ≡ (j - i) + (k - j) = omega (arith, low, high) in
    let whole : i + (j - i) ≡ j = omega (arith, low) in
    ap (λ n. take n (drop i groups)) sum
    ∙ take_sum (drop i groups) (j - i) (k - j)
    ∙ ap (λ l. take (j - i) (drop i groups) ++ take (k - j) l)
    (drop-drop (j - i) i groups ∙ ap (λ n. drop n groups) whole)

-- One more group of a run.

one_longer : (gs : List TableGroup) (k : ℕ) (d : TableGroup) → k < length gs
    → take (suc k) gs ≡ take k gs ++ get_or gs k d ∷ []
one_longer [] k d inside = absurd (omega (arith, inside))
one_longer (g ∷ gs) zero d inside = refl
one_longer (g ∷ gs) (suc k) d inside = ap (λ l. g ∷ l) (one_longer gs k d (omega (arith, inside)))

run_grows : (groups : List TableGroup) (from i : ℕ) → from ≤ i → i < length groups
    → group_run groups from (i + 1) ≡ group_run groups from i ++ group_at groups i ∷ []
run_grows groups from i low inside =
    let k : ℕ = i - from in
    let whole : from + k ≡ i = omega (arith, low) in
    let next : (i + 1) - from ≡ suc k = omega (arith, low) in
    let rest = length-drop from groups in
    let within : k < length (drop from groups) = omega (arith, rest, inside, low) in
    ap (λ n. take n (drop from groups)) next
    ∙ one_longer (drop from groups) k (group_at [] i) within
    ∙ ap (λ g. take k (drop from groups) ++ g ∷ [])
    (get_or-drop from groups k (group_at [] i) ∙ ap (λ n. get_or groups n (group_at [] i)) whole)

owed_both : (owed : List ℕ) (xs ys : List TableGroup) → has_owed owed xs ≡ false → has_owed owed ys ≡ false
    → has_owed owed (xs ++ ys) ≡ false
owed_both owed [] ys e f = f
owed_both owed (x ∷ xs) ys e f =
    let both = none_of_both (meets x.reads owed) (has_owed owed xs) e in
    ap (λ b. b || has_owed owed (xs ++ ys)) both.0 ∙ owed_both owed xs ys both.1 f

pub quiet_more : (owed : List ℕ) (groups : List TableGroup) (from i : ℕ) → from ≤ i → i < length groups
    → meets (group_at groups i).reads owed ≡ false → has_owed owed (group_run groups from i) ≡ false
    → has_owed owed (group_run groups from (i + 1)) ≡ false
quiet_more owed groups from i low inside own quiet =
    ap (λ l. has_owed owed l) (run_grows groups from i low inside)
    ∙ owed_both owed (group_run groups from i) (group_at groups i ∷ []) quiet (ap (λ b. b || false) own)

-- The own reads of the group at an index.
own_reads_at : (gs : List TableGroup) (i : ℕ) → reads_at (own_reads gs) i ≡ (group_at gs i).reads
own_reads_at [] i = refl
own_reads_at (g ∷ gs) zero = refl
own_reads_at (g ∷ gs) (suc i) = own_reads_at gs i

quiet_steps : (owed : List ℕ) (groups : List TableGroup) (from n : ℕ) → (0 < n → from + n ≤ length groups)
    → ((i : ℕ) → from ≤ i → i < from + n → meets (group_at groups i).reads owed ≡ false)
    → has_owed owed (group_run groups from (from + n)) ≡ false
quiet_steps owed groups from zero inside quiet =
    let none : (from + 0) - from ≡ 0 = omega arith in ap (λ k. has_owed owed (take k (drop from groups))) none
quiet_steps owed groups from (suc n) inside quiet =
    let all = inside (omega arith) in
    let before = quiet_steps owed groups from n (λ some. omega (arith, all))
    (λ i low high. quiet i low (omega (arith, high))) in
    let sum : from + suc n ≡ (from + n) + 1 = omega arith in
    ap (λ k. has_owed owed (group_run groups from k)) sum
    ∙ quiet_more owed groups from (from + n) (omega arith) (omega (arith, all))
    (quiet (from + n) (omega arith) (omega arith)) before

-- A group that is not in the list of owed calls has no owed object among its reads.
quiet_at : (owed : List ℕ) (groups : List TableGroup) (calls : List ℕ) → IsOwedList (own_reads groups) owed calls
    → (i : ℕ) → contains i calls ≡ false → meets (group_at groups i).reads owed ≡ false
quiet_at owed groups calls is i none =
    sym (ap (λ l. meets l owed) (own_reads_at groups i)) ∙ by (meets (reads_at (own_reads groups) i) owed) refl
  where
    by : (b : Bool) → meets (reads_at (own_reads groups) i) owed ≡ b → b ≡ false
    by false e = refl
    by true e = absurd (true≢false (sym (is.all i e) ∙ none))

-- No group of a run is in the list of owed calls.
pub quiet_between : (owed : List ℕ) (groups : List TableGroup) (calls : List ℕ)
    → IsOwedList (own_reads groups) owed calls → (from to : ℕ) → to ≤ length groups
    → ((i : ℕ) → from ≤ i → i < to → contains i calls ≡ false) → has_owed owed (group_run groups from to) ≡ false
quiet_between owed groups calls is from to inside none =
    let n : ℕ = to - from in
    let same : n ≡ (from + n) - from = omega arith in
    ap (λ k. has_owed owed (take k (drop from groups))) same
    ∙ quiet_steps owed groups from n (λ some. omega (arith, some, inside))
    (λ i low high. quiet_at owed groups calls is i (none i low (omega (arith, low, high))))

-- The rest of a level.

-- The groups after a level are the same from each group of the level.
deep_on : (d : ℕ) (groups : List TableGroup) (i n j : ℕ) → i + n ≤ j → j ≤ length groups
    → drop j groups ≡ after_deep d (drop i groups) → drop j groups ≡ after_deep d (drop (i + n) groups)
deep_on d groups i zero j low inside e =
    let same : i ≡ i + 0 = omega arith in e ∙ ap (λ k. after_deep d (drop k groups)) same
deep_on d groups i (suc n) j low inside e =
    let next : suc i + n ≡ i + suc n = omega arith in
    deep_on d groups (suc i) n j (omega (arith, low)) inside (by (nat_le d g.depth) (e ∙ ap (λ l. after_deep d l) first))
    ∙ ap (λ k. after_deep d (drop k groups)) next
  where
    g : TableGroup
    g = group_at groups i

    first : drop i groups ≡ g ∷ drop (suc i) groups
    first = drop-cons groups i (group_at [] i) (omega (arith, low, inside))

    by : (b : Bool) → drop j groups ≡ (if b then after_deep d (drop (suc i) groups) else g ∷ drop (suc i) groups)
        → drop j groups ≡ after_deep d (drop (suc i) groups)
    by true f = f
    by false f =
        let same = ap (λ (l : List TableGroup). length l) (f ∙ sym first) in
        let here = length-drop i groups in
        let there = length-drop j groups in absurd (omega (arith, same, here, there, low, inside))

-- The groups inside a group end where the groups from one of them on end.
pub level_end_is : (groups : List TableGroup) (around first j depth : ℕ) → around < first → first ≤ j
    → j ≤ length groups → depth ≡ (group_at groups around).depth + 1
    → ((g : TableGroup) (rest : List TableGroup) → drop around groups ≡ g ∷ rest
    → drop j groups ≡ after_deep (g.depth + 1) rest) → IsLevelEnd depth groups first j
level_end_is groups around first j depth low high inside depth_is after =
    let n : ℕ = first - suc around in
    let sum : suc around + n ≡ first = omega (arith, low) in
    let there = after (group_at groups around) (drop (suc around) groups)
    (drop-cons groups around (group_at [] around) (omega (arith, low, high, inside)))
    ∙ ap (λ d. after_deep d (drop (suc around) groups)) (sym depth_is) in
    let here = deep_on depth groups (suc around) n j (omega (arith, low, high)) inside there
    ∙ ap (λ k. after_deep depth (drop k groups)) sum in record {
      order = high;
      inside = inside;
      after = sym here;
    }

-- The groups of a whole frame end where the list of groups ends.

all_deep : (gs : List TableGroup) → after_deep 0 gs ≡ []
all_deep [] = refl
all_deep (g ∷ gs) = by (nat_le 0 g.depth) refl (all_deep gs)
  where
    by : (b : Bool) → nat_le 0 g.depth ≡ b → after_deep 0 gs ≡ [] → (if b then after_deep 0 gs else g ∷ gs) ≡ []
    by true f none = none
    by false f none = absurd (let deep = leb-false 0 g.depth f in omega (arith, deep))

pub top_end_is : (groups : List TableGroup) (first j depth : ℕ) → depth ≡ 0 → first ≤ length groups → j ≡ length groups
    → IsLevelEnd depth groups first j
top_end_is groups first j depth top low whole = record {
  order = omega (arith, low, whole);
  inside = omega (arith, whole);
  after = ap (λ d. after_deep d (drop first groups)) top ∙ all_deep (drop first groups)
      ∙ sym (drop_all j groups (omega (arith, whole)));
}
