-- The state after composing next to old groups, and after skipping old groups.
use Rattle.std.proofs.Common.{ℕ, ◌+◌, ◌≤◌, List, [], ◌∷◌, ◌++◌, ◌≡◌, refl, ap, ◌∙◌, sym, append_assoc, append-nil, length, length-append, Bool, true, false, ◌&&◌, Option, Some, None, take, arith}
use Rattle.rt_values.specs.declared.value.Value.{Value}
use Rattle.rt_groups.specs.declared.groups.Group.{Group as FlatGroup}
use Rattle.rt_values.specs.Maps.{Map}
use Rattle.rt_groups.specs.GroupForest.{GroupForest, End, Read, Group, GroupKind, Call, Node, Key, Cell, joined_forest, reads_then, asks, own_part, inside_own}
use Rattle.rt_groups.specs.Paths.{GroupKey, sibling, occurrence, Found, matching_sibling, inside_of}
use Rattle.rt_groups.specs.PreorderGroups.{flat_kind, flat_reads, flat_group, preorder}
use Rattle.rt_groups.specs.Frames.{other_keys, given_number}
use Rattle.lang_ast.specs.Terms.{Func}
use Rattle.compose_model.specs.Composing.{meanings, meaning_at}
use Rattle.recompose_laws.specs.Work.{Work, work, with_cell, work_at_group, runs_in, siblings}
use Rattle.recompose_laws.specs.Refreshing.{is_owed, SameReads}
use Rattle.recompose_laws.specs.Walking.{walk_work_inside, walk_work}
use Rattle.recompose_laws.specs.Skipped.{SkippedCallIsRenewed}
use Rattle.recompose_laws.specs.Numbering.{without_numbers, numbered_by_siblings, renewed_inside, renewed_groups, kept_number}
use Rattle.composer.specs.ComposerState.{ComposerState, read_in, put_group, one_if, opened_group, closed_group, composed_beside, skipped_inside, skipped_groups}
use Rattle.composer.specs.BesideContracts.{IsPrefix}

-- One forest, then another.

pub composed-joined : (owed : List ℕ) (old : GroupForest) (d : ℕ) (running : Bool) (seen : List GroupKey)
    (t u : GroupForest) (s : ComposerState) →
    composed_beside owed old d running seen (joined_forest t u) s
    ≡ composed_beside owed old d running (siblings t seen) u (composed_beside owed old d running seen t s)
composed-joined owed old d running seen End u s = refl
composed-joined owed old d running seen (Read x rest) u s =
    composed-joined owed old d running seen rest u (read_in running x s)
composed-joined owed old d running seen (Group site n what inside rest) u s =
    let found = matching_sibling (sibling site what) (occurrence (sibling site what) seen) old in
    composed-joined owed old d running (sibling site what ∷ seen) rest u
    (closed_group what s (composed_beside owed (inside_of found) (d + 1) (runs_in owed running found what) [] inside
    (opened_group d (runs_in owed running found what) found site what inside s)))

-- States are equal if their parts are.

abbrev pub state : List FlatGroup → ℕ → ℕ → ℕ → List ℕ → List ℕ → ComposerState
state groups next ran calculated asked own =
    record { groups = groups; next = next; ran = ran; calculated = calculated; asked = asked; own = own }

pub same_state : {g g' : List FlatGroup} {n n' r r' c c' : ℕ} {a a' o o' : List ℕ} → g ≡ g' → n ≡ n' → r ≡ r' → c ≡ c'
    → a ≡ a' → o ≡ o' → state g n r c a o ≡ state g' n' r' c' a' o'
same_state {g} {g'} {n} {n'} {r} {r'} {c} {c'} {a} {a'} {o} {o'} e1 e2 e3 e4 e5 e6 =
    ap (λ x. state x n r c a o) e1 ∙ ap (λ x. state g' x r c a o) e2 ∙ ap (λ x. state g' n' x c a o) e3
    ∙ ap (λ x. state g' n' r' x a o) e4 ∙ ap (λ x. state g' n' r' c' x o) e5 ∙ ap (λ x. state g' n' r' c' a' x) e6

-- Reads, then a forest.

abbrev pub read_all : List ℕ → ComposerState → ComposerState
read_all xs s = record s { asked = s.asked ++ xs; own = s.own ++ xs }

pub composed-reads_then : (owed : List ℕ) (old : GroupForest) (d : ℕ) (seen : List GroupKey) (xs : List ℕ)
    (t : GroupForest) (s : ComposerState) →
    composed_beside owed old d true seen (reads_then xs t) s ≡ composed_beside owed old d true seen t (read_all xs s)
composed-reads_then owed old d seen [] t s = ap (λ q. composed_beside owed old d true seen t q)
    (same_state refl refl refl refl (sym (append-nil s.asked)) (sym (append-nil s.own)))
composed-reads_then owed old d seen (x ∷ xs) t s =
    composed-reads_then owed old d seen xs t (read_in true x s)
    ∙ ap (λ q. composed_beside owed old d true seen t q)
    (same_state refl refl refl refl (append_assoc s.asked (x ∷ []) xs) (append_assoc s.own (x ∷ []) xs))

pub siblings-reads_then : (xs : List ℕ) (t : GroupForest) (seen : List GroupKey)
    → siblings (reads_then xs t) seen ≡ siblings t seen
siblings-reads_then [] t seen = refl
siblings-reads_then (x ∷ xs) t seen = siblings-reads_then xs t seen

-- The state after a forest with numbers, its work and its own reads.

abbrev pub state_after_work : ℕ → GroupForest × ℕ → Work → List ℕ → ComposerState → ComposerState
state_after_work d given w mine s = state (s.groups ++ preorder d given.0) given.1 (s.ran + w.ran)
    (s.calculated + w.calculated) (s.asked ++ w.reads) (s.own ++ mine)

own-beside : (old : GroupForest) (seen : List GroupKey) (k : ℕ) (t : GroupForest)
    → asks (own_part (numbered_by_siblings old seen k t).0) ≡ asks (own_part t)
own-beside old seen k End = refl
own-beside old seen k (Read x rest) = ap (λ l. x ∷ l) (own-beside old seen k rest)
own-beside old seen k (Group site n (Call f vs) inside rest) = own-beside old _ _ rest
own-beside old seen k (Group site n (Node kind attributes) inside rest) =
    let found = matching_sibling (sibling site (Node kind attributes))
    (occurrence (sibling site (Node kind attributes)) seen) old in
    let within = numbered_by_siblings (inside_of found) [] (given_number (Node kind attributes) found k).1 inside in
    ap (λ l. l ++ asks (own_part (numbered_by_siblings old (sibling site (Node kind attributes) ∷ seen) within.1
    rest).0)) (own-beside (inside_of found) [] (given_number (Node kind attributes) found k).1 inside)
    ∙ ap (λ l. asks (own_part inside) ++ l) (own-beside old (sibling site (Node kind attributes) ∷ seen) within.1 rest)
own-beside old seen k (Group site n (Key v) inside rest) =
    let found = matching_sibling (sibling site (Key v)) (occurrence (sibling site (Key v)) seen) old in
    let within = numbered_by_siblings (inside_of found) [] k inside in
    ap (λ l. l ++ asks (own_part (numbered_by_siblings old (sibling site (Key v) ∷ seen) within.1 rest).0))
    (own-beside (inside_of found) [] k inside)
    ∙ ap (λ l. asks (own_part inside) ++ l) (own-beside old (sibling site (Key v) ∷ seen) within.1 rest)
own-beside old seen k (Group site n (Cell ks v) inside rest) =
    let found = matching_sibling (sibling site (Cell ks v)) (occurrence (sibling site (Cell ks v)) seen) old in
    let within = numbered_by_siblings (inside_of found) [] k inside in
    ap (λ l. l ++ asks (own_part (numbered_by_siblings old (sibling site (Cell ks v) ∷ seen) within.1 rest).0))
    (own-beside (inside_of found) [] k inside)
    ∙ ap (λ l. asks (own_part inside) ++ l) (own-beside old (sibling site (Cell ks v) ∷ seen) within.1 rest)

-- The reads that a group records do not depend on node numbers.
reads_beside : (old : GroupForest) (k : ℕ) (what : GroupKind) (inside : GroupForest)
    → flat_reads what (numbered_by_siblings old [] k inside).0 ≡ flat_reads what inside
reads_beside old k (Call f vs) inside = own-beside old [] k inside
reads_beside old k (Node kind attributes) inside = refl
reads_beside old k (Key v) inside = refl
reads_beside old k (Cell ks v) inside = refl

-- One group, then more groups.
groups_step : (g l : List FlatGroup) (e e' : FlatGroup) → e ≡ e' → (g ++ e ∷ []) ++ l ≡ g ++ (e' ∷ (l ++ []))
groups_step g l e e' is =
    append_assoc g (e ∷ []) l ∙ ap (λ x. g ++ (e ∷ x)) (sym (append-nil l)) ∙ ap (λ y. g ++ (y ∷ (l ++ []))) is

groups_more : (g l r : List FlatGroup) (e : FlatGroup) → (g ++ (e ∷ (l ++ []))) ++ r ≡ g ++ (e ∷ (l ++ r))
groups_more g l r e = append_assoc g (e ∷ (l ++ [])) r ∙ ap (λ x. g ++ (e ∷ (x ++ r))) (append-nil l)

-- The state after one group, from the state after the forest inside.
one_group : (d : ℕ) (runs : Bool) (found : Option Found) (site : ℕ) (what : GroupKind) (inside : GroupForest)
    (within : GroupForest × ℕ) (w : Work) (s : ComposerState) → flat_reads what within.0 ≡ flat_reads what inside →
    closed_group what s (state_after_work (d + 1) within w (asks (own_part inside))
    (opened_group d runs found site what inside s))
    ≡ state_after_work d (Group site (given_number what found s.next).0 what within.0 End, within.1)
    (work_at_group runs found what w) (asks (inside_own what (own_part inside))) s
one_group d true found site (Call f vs) inside within w s e =
    same_state (groups_step s.groups (preorder (d + 1) within.0) _ _
    (ap (λ r. flat_group d site 0 (flat_kind (Call f vs)) r) (sym e))) refl (omega arith) refl refl
    (sym (append-nil s.own))
one_group d false found site (Call f vs) inside within w s e =
    same_state (groups_step s.groups (preorder (d + 1) within.0) _ _
    (ap (λ r. flat_group d site 0 (flat_kind (Call f vs)) r) (sym e))) refl (omega arith) refl refl
    (sym (append-nil s.own))
one_group d runs found site (Node kind attributes) inside within w s e =
    same_state (groups_step s.groups (preorder (d + 1) within.0) _ _ refl) refl refl refl refl refl
one_group d runs found site (Key v) inside within w s e =
    same_state (groups_step s.groups (preorder (d + 1) within.0) _ _ refl) refl refl refl refl refl
one_group d runs found site (Cell ks v) inside within w s e = by (runs && other_keys found ks)
  where
    by : (b : Bool) → state_after_work (d + 1) within w (asks (own_part inside))
        (record (put_group (flat_group d site 0 (flat_kind (Cell ks v)) []) s.next s)
        { calculated = s.calculated + one_if b })
        ≡ state_after_work d (Group site 0 (Cell ks v) within.0 End, within.1) (with_cell b w) (asks (own_part inside))
        s
    by true = same_state (groups_step s.groups (preorder (d + 1) within.0) _ _ refl) refl refl (omega arith) refl refl
    by false = same_state (groups_step s.groups (preorder (d + 1) within.0) _ _ refl) refl refl (omega arith) refl refl

opened_next : (d : ℕ) (runs : Bool) (found : Option Found) (site : ℕ) (what : GroupKind) (inside : GroupForest)
    (s : ComposerState) → (opened_group d runs found site what inside s).next ≡ (given_number what found s.next).1
opened_next d runs found site (Call f vs) inside s = refl
opened_next d runs found site (Node kind attributes) inside s = refl
opened_next d runs found site (Key v) inside s = refl
opened_next d runs found site (Cell ks v) inside s = refl

-- Composing next to old siblings makes the new groups, numbered by siblings, and does the work that is found by
-- siblings.
pub composed_is : (owed : List ℕ) (old : GroupForest) (d : ℕ) (running : Bool) (seen : List GroupKey) (t : GroupForest)
    (s : ComposerState) →
    composed_beside owed old d running seen t s
    ≡ state_after_work d (numbered_by_siblings old seen s.next t) (work owed old seen running t) (asks (own_part t))
    s
composed_is owed old d running seen End s = same_state (sym (append-nil s.groups)) refl (omega arith) (omega arith)
    (sym (append-nil s.asked)) (sym (append-nil s.own))
composed_is owed old d true seen (Read x rest) s =
    composed_is owed old d true seen rest (read_in true x s)
    ∙ same_state refl refl refl refl (append_assoc s.asked (x ∷ []) _) (append_assoc s.own (x ∷ []) _)
composed_is owed old d false seen (Read x rest) s = composed_is owed old d false seen rest (read_in false x s)
    ∙ same_state refl refl refl refl refl (append_assoc s.own (x ∷ []) _)
composed_is owed old d running seen (Group site n what inside rest) s =
    let found = matching_sibling (sibling site what) (occurrence (sibling site what) seen) old in
    let runs = runs_in owed running found what in
    let first = opened_group d runs found site what inside s in
    let within = numbered_by_siblings (inside_of found) [] (given_number what found s.next).1 inside in
    let w = work owed (inside_of found) [] runs inside in
    let here = state_after_work d (Group site (given_number what found s.next).0 what within.0 End, within.1)
    (work_at_group runs found what w) (asks (inside_own what (own_part inside))) s in
    let inner : composed_beside owed (inside_of found) (d + 1) runs [] inside first ≡ state_after_work (d + 1) within w (asks (own_part inside)) first =
    composed_is owed (inside_of found) (d + 1) runs [] inside first
    ∙ ap (λ k. state_after_work (d + 1) (numbered_by_siblings (inside_of found) [] k inside) w (asks (own_part inside))
    first) (opened_next d runs found site what inside s) in
    let group : closed_group what s (composed_beside owed (inside_of found) (d + 1) runs [] inside first) ≡ here =
    ap (λ q. closed_group what s q) inner
    ∙ one_group d runs found site what inside within w s
    (reads_beside (inside_of found) (given_number what found s.next).1 what inside) in
    ap (λ q. composed_beside owed old d running (sibling site what ∷ seen) rest q) group
    ∙ composed_is owed old d running (sibling site what ∷ seen) rest here
    ∙ same_state (groups_more s.groups (preorder (d + 1) within.0) _ _) refl (omega arith) (omega arith)
    (append_assoc s.asked _ _) (append_assoc s.own _ _)

-- The state after a walk over old groups, from the groups that it keeps and its work.

abbrev pub state_after_walk : ℕ → GroupForest × ℕ → Work → ComposerState → ComposerState
state_after_walk d given w s = state (s.groups ++ preorder d given.0) given.1 (s.ran + w.ran)
    (s.calculated + w.calculated) (s.asked ++ w.reads) s.own

own-renewed_groups : (m : Map) (owed : List ℕ) (t : GroupForest) (functions : List Func) (k : ℕ)
    → asks (own_part (renewed_groups m owed t functions k).0) ≡ asks (own_part t)
own-renewed_groups m owed End functions k = refl
own-renewed_groups m owed (Read x rest) functions k = ap (λ l. x ∷ l) (own-renewed_groups m owed rest functions k)
own-renewed_groups m owed (Group site n (Call f vs) inside rest) functions k =
    own-renewed_groups m owed rest functions _
own-renewed_groups m owed (Group site n (Node kind attributes) inside rest) functions k =
    ap (λ l. l ++ asks (own_part (renewed_groups m owed rest functions (renewed_groups m owed inside functions k).1).0))
    (own-renewed_groups m owed inside functions k)
    ∙ ap (λ l. asks (own_part inside) ++ l)
    (own-renewed_groups m owed rest functions (renewed_groups m owed inside functions k).1)
own-renewed_groups m owed (Group site n (Key v) inside rest) functions k =
    ap (λ l. l ++ asks (own_part (renewed_groups m owed rest functions (renewed_groups m owed inside functions k).1).0))
    (own-renewed_groups m owed inside functions k)
    ∙ ap (λ l. asks (own_part inside) ++ l)
    (own-renewed_groups m owed rest functions (renewed_groups m owed inside functions k).1)
own-renewed_groups m owed (Group site n (Cell ks v) inside rest) functions k =
    ap (λ l. l ++ asks (own_part (renewed_groups m owed rest functions (renewed_groups m owed inside functions k).1).0))
    (own-renewed_groups m owed inside functions k)
    ∙ ap (λ l. asks (own_part inside) ++ l)
    (own-renewed_groups m owed rest functions (renewed_groups m owed inside functions k).1)

-- Skipping a forest makes the groups of the walk, and does its work.
abbrev pub SkipsAs : Map → List ℕ → GroupForest → Type 0
SkipsAs m owed t = (functions : List Func) (d : ℕ) (s : ComposerState)
    → skipped_groups m owed t functions d s
    ≡ state_after_walk d (renewed_groups m owed t functions s.next) (walk_work m owed t functions) s

skip_call : (m : Map) (owed : List ℕ) (functions : List Func) (d site : ℕ) (f : ℕ) (vs : List Value) (n : ℕ)
    (anew : Bool) (inside : GroupForest) (s : ComposerState) → SkipsAs m owed inside →
    skipped_inside m owed functions d site n (Call f vs) anew inside (skipped_groups m owed inside) s
    ≡ state_after_walk d (
      Group site 0 (Call f vs)
          (renewed_inside m functions (Call f vs) anew inside s.next (renewed_groups m owed inside)).0 End,
      (renewed_inside m functions (Call f vs) anew inside s.next (renewed_groups m owed inside)).1,
    )
    (walk_work_inside m owed functions (Call f vs) anew inside (walk_work m owed inside)) s
skip_call m owed functions d site f vs n true inside s h =
    let new = meaning_at (meanings m functions) f vs in
    let first = opened_group d true None site (Call f vs) new s in
    let within = numbered_by_siblings inside [] s.next new in
    let w = work owed inside [] true new in
    ap (λ q. closed_group (Call f vs) s q) (composed_is owed inside (d + 1) true [] new first)
    ∙ one_group d true None site (Call f vs) new within w s (reads_beside inside s.next (Call f vs) new)
    ∙ same_state refl refl refl refl refl (append-nil s.own)
skip_call m owed functions d site f vs n false inside s h =
    h (take f functions) (d + 1)
    (put_group (flat_group d site 0 (flat_kind (Call f vs)) (asks (own_part inside))) s.next s)
    ∙ same_state (groups_step s.groups _ _ _
    (ap (λ r. flat_group d site 0 (flat_kind (Call f vs)) r)
    (sym (own-renewed_groups m owed inside (take f functions) s.next)))) refl refl refl refl refl

pub skip_group : (m : Map) (owed : List ℕ) (functions : List Func) (d site n : ℕ) (what : GroupKind)
    (inside : GroupForest) (s : ComposerState) → SkipsAs m owed inside →
    skipped_inside m owed functions d site n what (is_owed owed inside) inside (skipped_groups m owed inside) s
    ≡ state_after_walk d (
      Group site (kept_number what n) what
          (renewed_inside m functions what (is_owed owed inside) inside s.next (renewed_groups m owed inside)).0 End,
      (renewed_inside m functions what (is_owed owed inside) inside s.next (renewed_groups m owed inside)).1,
    )
    (walk_work_inside m owed functions what (is_owed owed inside) inside (walk_work m owed inside)) s
skip_group m owed functions d site n (Call f vs) inside s h =
    skip_call m owed functions d site f vs n (is_owed owed inside) inside s h
skip_group m owed functions d site n (Node kind attributes) inside s h =
    h functions (d + 1) (put_group (flat_group d site n (flat_kind (Node kind attributes)) []) s.next s)
    ∙ same_state (groups_step s.groups _ _ _ refl) refl refl refl refl refl
skip_group m owed functions d site n (Key v) inside s h = h functions (d + 1)
    (put_group (flat_group d site 0 (flat_kind (Key v)) []) s.next s)
    ∙ same_state (groups_step s.groups _ _ _ refl) refl refl refl refl refl
skip_group m owed functions d site n (Cell ks v) inside s h =
    h functions (d + 1) (put_group (flat_group d site 0 (flat_kind (Cell ks v)) []) s.next s)
    ∙ same_state (groups_step s.groups _ _ _ refl) refl refl refl refl refl

-- Skipping old groups makes the groups of the walk, and does its work.
pub skipped_is : (m : Map) (owed : List ℕ) (t : GroupForest) (functions : List Func) (d : ℕ) (s : ComposerState) →
    skipped_groups m owed t functions d s
    ≡ state_after_walk d (renewed_groups m owed t functions s.next) (walk_work m owed t functions) s
skipped_is m owed End functions d s =
    same_state (sym (append-nil s.groups)) refl (omega arith) (omega arith) (sym (append-nil s.asked)) refl
skipped_is m owed (Read x rest) functions d s = skipped_is m owed rest functions d s
skipped_is m owed (Group site n what inside rest) functions d s =
    let within = renewed_inside m functions what (is_owed owed inside) inside s.next (renewed_groups m owed inside) in
    let here = state_after_walk d (Group site (kept_number what n) what within.0 End, within.1)
    (walk_work_inside m owed functions what (is_owed owed inside) inside (walk_work m owed inside)) s in
    ap (λ q. skipped_groups m owed rest functions d q)
    (skip_group m owed functions d site n what inside s (λ fs e q. skipped_is m owed inside fs e q))
    ∙ skipped_is m owed rest functions d here
    ∙ same_state (groups_more s.groups (preorder (d + 1) within.0) _ _) refl (omega arith) (omega arith)
    (append_assoc s.asked _ _) refl

-- The reads and the groups only grow.

pub part_of : (owed : List ℕ) (old : GroupForest) (d : ℕ) (running : Bool) (seen : List GroupKey) (t : GroupForest)
    (s : ComposerState) → IsPrefix s.asked (composed_beside owed old d running seen t s).asked
part_of owed old d running seen t s = record {
  rest = (work owed old seen running t).reads;
  is = sym (ap (λ (q : ComposerState). q.asked) (composed_is owed old d running seen t s));
}

pub longer : (owed : List ℕ) (old : GroupForest) (d : ℕ) (running : Bool) (seen : List GroupKey) (t : GroupForest)
    (s : ComposerState) → length s.groups ≤ length (composed_beside owed old d running seen t s).groups
longer owed old d running seen t s =
    let e = ap (λ (q : ComposerState). length q.groups) (composed_is owed old d running seen t s) in
    omega (arith, e, length-append s.groups (preorder d (numbered_by_siblings old seen s.next t).0))

pub part_skipped : (m : Map) (owed : List ℕ) (t : GroupForest) (functions : List Func) (d : ℕ) (s : ComposerState)
    → IsPrefix s.asked (skipped_groups m owed t functions d s).asked
part_skipped m owed t functions d s = record {
  rest = (walk_work m owed t functions).reads;
  is = sym (ap (λ (q : ComposerState). q.asked) (skipped_is m owed t functions d s));
}

pub longer_skipped : (m : Map) (owed : List ℕ) (t : GroupForest) (functions : List Func) (d : ℕ) (s : ComposerState)
    → length s.groups ≤ length (skipped_groups m owed t functions d s).groups
longer_skipped m owed t functions d s =
    let e = ap (λ (q : ComposerState). length q.groups) (skipped_is m owed t functions d s) in
    omega (arith, e, length-append s.groups (preorder d (renewed_groups m owed t functions s.next).0))

pub part_on : {a b c : List ℕ} → IsPrefix a b → IsPrefix b c → IsPrefix a c
part_on {a} {b} {c} p q =
    record { rest = p.rest ++ q.rest; is = sym (append_assoc a p.rest q.rest) ∙ ap (λ l. l ++ q.rest) p.is ∙ q.is }

-- Skipping a call that is not owed has the same effect as composing it next to its old groups.
pub skip_is_new : (m m' : Map) (owed : List ℕ) (functions : List Func) (f : ℕ) (vs : List Value) (inside : GroupForest)
    (n d site : ℕ) (s : ComposerState) → SkippedCallIsRenewed →
    without_numbers inside ≡ meaning_at (meanings m functions) f vs → SameReads owed (asks inside) m m'
    → is_owed owed inside ≡ false →
    skipped_inside m' owed functions d site n (Call f vs) (is_owed owed inside) inside (skipped_groups m' owed inside) s
    ≡ closed_group (Call f vs) s
    (composed_beside owed inside (d + 1) false [] (meaning_at (meanings m' functions) f vs)
    (opened_group d false (Some (record { number = n; what = Call f vs; inside = inside })) site (Call f vs)
    (meaning_at (meanings m' functions) f vs) s))
skip_is_new m m' owed functions f vs inside n d site s law was same quiet =
    let new = meaning_at (meanings m' functions) f vs in
    let is = law m m' owed functions f vs inside s.next was same quiet in
    let kept = put_group (flat_group d site 0 (flat_kind (Call f vs)) (asks (own_part inside))) s.next s in
    let first = opened_group d false (Some (record { number = n; what = Call f vs; inside = inside })) site (Call f vs)
    new s in
    ap (λ b. skipped_inside m' owed functions d site n (Call f vs) b inside (skipped_groups m' owed inside) s) quiet
    ∙ skipped_is m' owed inside (take f functions) (d + 1) kept
    ∙ ap (λ (g : GroupForest × ℕ). state_after_walk (d + 1) g (walk_work m' owed inside (take f functions)) kept) is.0
    ∙ ap (λ (w : Work). state_after_walk (d + 1) (numbered_by_siblings inside [] s.next new) w kept) is.1
    ∙ same_state (ap (λ r. (s.groups ++ flat_group d site 0 (flat_kind (Call f vs)) r ∷ [])
    ++ preorder (d + 1) (numbered_by_siblings inside [] s.next new).0) (sym is.2)) refl (omega arith) refl refl refl
    ∙ sym (ap (λ q. closed_group (Call f vs) s q) (composed_is owed inside (d + 1) false [] new first))
