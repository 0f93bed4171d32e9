-- The marks by the indexes of old groups are those by paths.
use Rattle.std.proofs.Common.{◌≡◌, ◌<◌, ◌≤◌, ℕ, suc, ◌+◌, ◌-◌, ◌&&◌, Bool, true, not, List, [], ◌∷◌, ◌++◌, map, length, length-append, length-take-le, take, drop, Option, Some, None, refl, ap, sym, subst, ◌∙◌, arith, append_assoc, append-nil}
use Rattle.std.specs.Prelude.{slice_index_or}
use Rattle.std.proofs.lemmas.List.{drop_all, drop_more, get_or-take, get_or_push, take-take, take_at, length-map, map-append}
use Rattle.rt_values.specs.declared.value.Value.{Value}
use Rattle.rt_groups.specs.declared.groups.Group.{Group as TableGroup}
use Rattle.rt_groups.specs.GroupForest.{GroupForest, End, Read, Group, GroupKind, Call, Node, Key, Cell}
use Rattle.rt_groups.specs.PreorderGroups.{preorder, flat_group, flat_kind, flat_reads}
use Rattle.rt_groups.specs.Paths.{Path, PathStep, GroupKey, sibling, step, Found, at_path}
use Rattle.rt_groups.specs.Frames.{CallAtPath, nobody, innermost_call, call_runs, other_keys}
use Rattle.slot_table.specs.TableGroups.{group_at}
use Rattle.path_laws.specs.GroupPaths.{paths, index_at, old_indexes}
use Rattle.run_causes.specs.declared.causes.Cause.{Cause}
use Rattle.run_causes.specs.declared.causes.Mark.{Mark}
use Rattle.run_causes.specs.declared.causes.Mark.TheVariants as mark
use Rattle.run_causes.specs.Causes.{cause_after, mark_at, marks_from, read_or_skipped, owed_among}
use Rattle.run_causes.specs.Causes as cause
use Rattle.run_causes.specs.TableCauses.{call_cause, found_cause, found_other_keys, has_keys, found_mark, runs_inside, runs_around, next_mark, next_runs, found_marks, found_runs}
use Rattle.run_causes.proofs.SiblingSteps.{split_at}
use Rattle.run_causes.proofs.CausesOfRuns.{causes_tell_the_running}
use Rattle.run_causes.proofs.FoundGroups.{AreTableGroups, found_in_table}
use Rattle.path_laws.proofs.SiblingMatches.{map-map as map_map}

-- The cause by the kind and the reads of an old group of the table.
old_cause : (owed : List ℕ) (old : GroupKind) (inside : GroupForest) (f : ℕ) (vs : List Value) (number : ℕ)
    → call_cause owed (flat_kind old) (flat_reads old inside) f vs
    ≡ cause_after owed (Some (record { number = number; what = old; inside = inside })) (Call f vs)
old_cause owed (Call g ws) inside f vs number = refl
old_cause owed (Node k as_) inside f vs number = refl
old_cause owed (Key v) inside f vs number = refl
old_cause owed (Cell ks v) inside f vs number = refl

same_cause : (owed : List ℕ) (groups : List TableGroup) (i : Option ℕ) (o : Option Found) (f : ℕ) (vs : List Value)
    → AreTableGroups groups i o → found_cause owed groups i f vs ≡ cause_after owed o (Call f vs)
same_cause owed groups None None f vs h = refl
same_cause owed groups None (Some g) f vs h = absurd h
same_cause owed groups (Some i) None f vs h = absurd h
same_cause owed groups (Some i) (Some g) f vs h =
    ap (λ k. call_cause owed k (group_at groups i).reads f vs) h.what
    ∙ ap (λ r. call_cause owed (flat_kind g.what) r f vs) h.reads
    ∙ old_cause owed g.what g.inside f vs g.number

old_keys : (old : GroupKind) (inside : GroupForest) (ks : List Value) (number : ℕ)
    → not (has_keys ks (flat_kind old)) ≡ other_keys (Some (record { number = number; what = old; inside = inside })) ks
old_keys (Call g ws) inside ks number = refl
old_keys (Node k as_) inside ks number = refl
old_keys (Key v) inside ks number = refl
old_keys (Cell js v) inside ks number = refl

same_other_keys : (groups : List TableGroup) (i : Option ℕ) (o : Option Found) (ks : List Value)
    → AreTableGroups groups i o → found_other_keys groups i ks ≡ other_keys o ks
same_other_keys groups None None ks h = refl
same_other_keys groups None (Some g) ks h = absurd h
same_other_keys groups (Some i) None ks h = absurd h
same_other_keys groups (Some i) (Some g) ks h =
    ap (λ k. not (has_keys ks k)) h.what ∙ old_keys g.what g.inside ks g.number

-- The mark of a group, and whether the innermost call inside it runs.
same_mark : (owed : List ℕ) (old : GroupForest) (caller : CallAtPath) (p : Path) (what : GroupKind) (run : Bool)
    → run ≡ call_runs owed old caller
    → found_mark owed (preorder 0 old) (index_at old p) run (flat_kind what) ≡ mark_at owed old caller p what
same_mark owed old caller p (Call f vs) run e =
    ap (λ (c : Cause). mark.Call c)
    (same_cause owed (preorder 0 old) (index_at old p) (at_path p old) f vs (found_in_table old p))
same_mark owed old caller p (Node k as_) run e = refl
same_mark owed old caller p (Key v) run e = refl
same_mark owed old caller p (Cell ks v) run e =
    ap (λ (b : Bool). mark.Cell (b && found_other_keys (preorder 0 old) (index_at old p) ks)) e
    ∙ ap (λ (b : Bool). mark.Cell (call_runs owed old caller && b))
    (same_other_keys (preorder 0 old) (index_at old p) (at_path p old) ks (found_in_table old p))

same_runs : (owed : List ℕ) (old : GroupForest) (caller : CallAtPath) (p : Path) (what : GroupKind) (run : Bool)
    → run ≡ call_runs owed old caller
    → runs_inside (mark_at owed old caller p what) run ≡ call_runs owed old (innermost_call caller p what)
same_runs owed old caller p (Call f vs) run e =
    causes_tell_the_running owed old (record { path = p; what = Call f vs })
same_runs owed old caller p (Node k as_) run e = e
same_runs owed old caller p (Key v) run e = e
same_runs owed old caller p (Cell ks v) run e = e

no_marks : (owed : List ℕ) (old : List TableGroup) (rs : List Bool) (is : List (Option ℕ))
    → found_marks owed old rs is [] ≡ []
no_marks owed old rs [] = refl
no_marks owed old rs (i ∷ is) = refl

-- Groups one after another.
marks_join : (owed : List ℕ) (old : List TableGroup) (rs : List Bool) (is js : List (Option ℕ)) (gs hs : List TableGroup)
    → length is ≡ length gs → found_marks owed old rs (is ++ js) (gs ++ hs)
    ≡ found_marks owed old rs is gs ++ found_marks owed old (found_runs owed old rs is gs) js hs
marks_join owed old rs [] js [] hs e = refl
marks_join owed old rs [] js (g ∷ gs) hs e = absurd (omega (arith, e))
marks_join owed old rs (i ∷ is) js [] hs e = absurd (omega (arith, e))
marks_join owed old rs (i ∷ is) js (g ∷ gs) hs e =
    ap (λ l. next_mark owed old rs i g ∷ l)
    (marks_join owed old (next_runs owed old rs i g) is js gs hs (omega (arith, e)))

runs_join : (owed : List ℕ) (old : List TableGroup) (rs : List Bool) (is js : List (Option ℕ)) (gs hs : List TableGroup)
    → length is ≡ length gs → found_runs owed old rs (is ++ js) (gs ++ hs)
    ≡ found_runs owed old (found_runs owed old rs is gs) js hs
runs_join owed old rs [] js [] hs e = refl
runs_join owed old rs [] js (g ∷ gs) hs e = absurd (omega (arith, e))
runs_join owed old rs (i ∷ is) js [] hs e = absurd (omega (arith, e))
runs_join owed old rs (i ∷ is) js (g ∷ gs) hs e =
    runs_join owed old (next_runs owed old rs i g) is js gs hs (omega (arith, e))

-- Each group has a path.
path_count : (f : Path → Option ℕ) (seen : List GroupKey) (d : ℕ) (t : GroupForest)
    → length (map f (paths seen t)) ≡ length (preorder d t)
path_count f seen d End = refl
path_count f seen d (Read x rest) = path_count f seen d rest
path_count f seen d (Group site number what inside rest) =
    let here : PathStep = step site what seen in
    let ps : List Path = map (λ p. here ∷ p) (paths [] inside) in
    let later : List Path = paths (sibling site what ∷ seen) rest in
    let a = length-map (ps ++ later) f in
    let b = length-append ps later in
    let c = length-map (paths [] inside) (λ (p : Path). here ∷ p) in
    let e = path_count f [] (d + 1) inside in
    let g = length-map (paths [] inside) f in
    let h = path_count f (sibling site what ∷ seen) d rest in
    let i = length-map later f in
    let j = length-append (preorder (d + 1) inside) (preorder d rest) in
    omega (arith, a, b, c, e, g, h, i, j)

-- The groups of a forest at a depth leave what is known of this depth.
record KeepsRuns (d : ℕ) (rs after : List Bool) : Type 0 where
  same : take (d + 1) after ≡ take (d + 1) rs
  long : d < length after

opened_runs : (rs : List Bool) (d : ℕ) (run : Bool) → d < length rs
    → KeepsRuns d rs (take (d + 1) rs ++ run ∷ [])
opened_runs rs d run lt =
    let long = length-take-le (d + 1) rs (omega (arith, lt)) in
    let joined = length-append (take (d + 1) rs) (run ∷ []) in
    record { same = take_at (take (d + 1) rs) (run ∷ []) (d + 1) long; long = omega (arith, long, joined) }

deeper_runs : (d : ℕ) (rs middle after : List Bool) → KeepsRuns d rs middle → KeepsRuns (d + 1) middle after
    → KeepsRuns d rs after
deeper_runs d rs middle after a b =
    let long = b.long in
    record {
      same = sym (take-take (d + 1) ((d + 1) + 1) after (omega arith)) ∙ ap (λ l. take (d + 1) l) b.same
          ∙ take-take (d + 1) ((d + 1) + 1) middle (omega arith) ∙ a.same;
      long = omega (arith, long);
    }

then_runs : (d : ℕ) (rs middle after : List Bool) → KeepsRuns d rs middle → KeepsRuns d middle after
    → KeepsRuns d rs after
then_runs d rs middle after a b = record { same = b.same ∙ a.same; long = b.long }

abbrev pub run_at : List Bool → ℕ → Bool
run_at rs d = slice_index_or rs d true

run_is : (rs : List Bool) (d : ℕ) → d < length rs → runs_around rs d ≡ run_at rs d
run_is rs d lt =
    let long = length-take-le (d + 1) rs (omega (arith, lt)) in
    let last : length (take (d + 1) rs) - 1 ≡ d = omega (arith, long) in
    ap (λ n. slice_index_or (take (d + 1) rs) n true) last ∙ get_or-take (d + 1) rs d true (omega arith)

kept_run : (rs after : List Bool) (d : ℕ) → KeepsRuns d rs after → run_at after d ≡ run_at rs d
kept_run rs after d k =
    sym (get_or-take (d + 1) after d true (omega arith)) ∙ ap (λ l. slice_index_or l d true) k.same
    ∙ get_or-take (d + 1) rs d true (omega arith)

opened_long : (rs : List Bool) (d : ℕ) (run : Bool) → d < length rs → length (take (d + 1) rs ++ run ∷ []) ≡ d + 2
opened_long rs d run lt =
    let long = length-take-le (d + 1) rs (omega (arith, lt)) in
    let joined = length-append (take (d + 1) rs) (run ∷ []) in
    omega (arith, long, joined)

opened_run : (rs : List Bool) (d : ℕ) (run : Bool) → d < length rs → run_at (take (d + 1) rs ++ run ∷ []) (d + 1) ≡ run
opened_run rs d run lt =
    get_or_push (take (d + 1) rs) run true (d + 1) (length-take-le (d + 1) rs (omega (arith, lt)))

-- The paths of the groups inside a group, and of the later siblings.
parted : (f : Path → Option ℕ) (s : PathStep) (inner later : List Path)
    → map f (map (λ p. s ∷ p) inner ++ later) ≡ map (λ p. f (s ∷ p)) inner ++ map f later
parted f s inner later =
    map-append f (map (λ p. s ∷ p) inner) later ∙ ap (λ l. l ++ map f later) (map_map f (λ p. s ∷ p) inner)

keeps_runs : (owed : List ℕ) (old : List TableGroup) (f : Path → Option ℕ) (t : GroupForest) (d : ℕ) (rs : List Bool)
    (seen : List GroupKey) → d < length rs
    → KeepsRuns d rs (found_runs owed old rs (map f (paths seen t)) (preorder d t))
keeps_runs owed old f End d rs seen lt = record { same = refl; long = lt }
keeps_runs owed old f (Read x rest) d rs seen lt = keeps_runs owed old f rest d rs seen lt
keeps_runs owed old f (Group site number what inside rest) d rs seen lt =
    let s : PathStep = step site what seen in
    let i : Option ℕ = f (s ∷ []) in
    let g : TableGroup = flat_group d site number (flat_kind what) (flat_reads what inside) in
    let run : Bool = runs_inside (next_mark owed old rs i g) (runs_around rs d) in
    let next : List Bool = next_runs owed old rs i g in
    let long = opened_long rs d run lt in
    let f1 : Path → Option ℕ = λ p. f (s ∷ p) in
    let inner : List (Option ℕ) = map f1 (paths [] inside) in
    let later : List (Option ℕ) = map f (paths (sibling site what ∷ seen) rest) in
    let after : List Bool = found_runs owed old next inner (preorder (d + 1) inside) in
    let kept = deeper_runs d rs next after (opened_runs rs d run lt)
    (keeps_runs owed old f1 inside (d + 1) next [] (omega (arith, long))) in
    let whole : found_runs owed old next (map f (map (λ p. s ∷ p) (paths [] inside) ++ paths (sibling site what ∷ seen) rest))
    (preorder (d + 1) inside ++ preorder d rest) ≡ found_runs owed old after later (preorder d rest) =
    ap (λ l. found_runs owed old next l (preorder (d + 1) inside ++ preorder d rest))
    (parted f s (paths [] inside) (paths (sibling site what ∷ seen) rest))
    ∙ runs_join owed old next inner later (preorder (d + 1) inside) (preorder d rest) (path_count f1 [] (d + 1) inside) in
    subst (λ l. KeepsRuns d rs l) (sym whole)
    (then_runs d rs after (found_runs owed old after later (preorder d rest)) kept
    (keeps_runs owed old f rest d after (sibling site what ∷ seen) kept.long))

pub marks_are_found : (owed : List ℕ) (old : GroupForest) (f : Path → Option ℕ) (t : GroupForest) (d : ℕ)
    (rs : List Bool) (caller : CallAtPath) (here : Path) (seen : List GroupKey) → d < length rs
    → run_at rs d ≡ call_runs owed old caller → ((p : Path) → f p ≡ index_at old (here ++ p))
    → found_marks owed (preorder 0 old) rs (map f (paths seen t)) (preorder d t) ≡ marks_from owed old caller here seen t
marks_are_found owed old f End d rs caller here seen lt runs at = refl
marks_are_found owed old f (Read x rest) d rs caller here seen lt runs at =
    marks_are_found owed old f rest d rs caller here seen lt runs at
marks_are_found owed old f (Group site number what inside rest) d rs caller here seen lt runs at =
    let groups : List TableGroup = preorder 0 old in
    let s : PathStep = step site what seen in
    let path : Path = here ++ s ∷ [] in
    let i : Option ℕ = f (s ∷ []) in
    let g : TableGroup = flat_group d site number (flat_kind what) (flat_reads what inside) in
    let around : Bool = runs_around rs d in
    let around_is : around ≡ call_runs owed old caller = run_is rs d lt ∙ runs in
    let is : next_mark owed groups rs i g ≡ mark_at owed old caller path what =
    ap (λ j. found_mark owed groups j around (flat_kind what)) (at (s ∷ []))
    ∙ same_mark owed old caller path what around around_is in
    let run : Bool = runs_inside (next_mark owed groups rs i g) around in
    let inside_runs : run ≡ call_runs owed old (innermost_call caller path what) =
    ap (λ m. runs_inside m around) is ∙ same_runs owed old caller path what around around_is in
    let next : List Bool = next_runs owed groups rs i g in
    let long = opened_long rs d run lt in
    let f1 : Path → Option ℕ = λ p. f (s ∷ p) in
    let inner : List (Option ℕ) = map f1 (paths [] inside) in
    let later : List (Option ℕ) = map f (paths (sibling site what ∷ seen) rest) in
    let after : List Bool = found_runs owed groups next inner (preorder (d + 1) inside) in
    let kept = deeper_runs d rs next after (opened_runs rs d run lt)
    (keeps_runs owed groups f1 inside (d + 1) next [] (omega (arith, long))) in
    let first : found_marks owed groups next inner (preorder (d + 1) inside)
    ≡ marks_from owed old (innermost_call caller path what) path [] inside =
    marks_are_found owed old f1 inside (d + 1) next (innermost_call caller path what) path [] (omega (arith, long))
    (opened_run rs d run lt ∙ inside_runs)
    (λ p. at (s ∷ p) ∙ ap (λ q. index_at old q) (sym (append_assoc here (s ∷ []) p))) in
    let rest_is : found_marks owed groups after later (preorder d rest)
    ≡ marks_from owed old caller here (sibling site what ∷ seen) rest =
    marks_are_found owed old f rest d after caller here (sibling site what ∷ seen) kept.long
    (kept_run rs after d kept ∙ runs) at in
    ap (λ l. next_mark owed groups rs i g ∷ l)
    (ap (λ l. found_marks owed groups next l (preorder (d + 1) inside ++ preorder d rest))
    (parted f s (paths [] inside) (paths (sibling site what ∷ seen) rest))
    ∙ marks_join owed groups next inner later (preorder (d + 1) inside) (preorder d rest)
    (path_count f1 [] (d + 1) inside))
    ∙ ap (λ l. next_mark owed groups rs i g ∷ (l ++ found_marks owed groups after later (preorder d rest))) first
    ∙ ap (λ l. next_mark owed groups rs i g ∷ (marks_from owed old (innermost_call caller path what) path [] inside ++ l)) rest_is
    ∙ ap (λ m. m ∷ (marks_from owed old (innermost_call caller path what) path [] inside
    ++ marks_from owed old caller here (sibling site what ∷ seen) rest)) is

-- One more group was marked.
pub one_more : (owed : List ℕ) (old groups : List TableGroup) (rs after : List Bool) (marks now whole : List Mark)
    (m : Mark) (olds : List (Option ℕ)) (found : Option ℕ) (i : ℕ) → i < length groups → i < length olds
    → found ≡ slice_index_or olds i None → m ≡ next_mark owed old rs found (group_at groups i)
    → now ≡ marks ++ m ∷ [] → after ≡ next_runs owed old rs found (group_at groups i)
    → marks ++ found_marks owed old rs (drop i olds) (drop i groups) ≡ whole
    → now ++ found_marks owed old after (drop (i + 1) olds) (drop (i + 1) groups) ≡ whole
one_more owed old groups rs after marks now whole m olds found i lt few is marked pushed opened so_far =
    let g : TableGroup = group_at groups i in
    let later : List (Option ℕ) = drop (i + 1) olds in
    let rest : List TableGroup = drop (i + 1) groups in
    let one : suc i ≡ i + 1 = omega arith in
    let first : drop i olds ≡ found ∷ later = drop_more olds i None few ∙ ap (λ o. o ∷ later) (sym is) in
    let next : drop i groups ≡ g ∷ rest = split_at groups i lt ∙ ap (λ n. g ∷ drop n groups) one in
    ap (λ l. l ++ found_marks owed old after later rest) pushed
    ∙ append_assoc marks (m ∷ []) (found_marks owed old after later rest)
    ∙ ap (λ x. marks ++ (x ∷ found_marks owed old after later rest)) marked
    ∙ ap (λ l. marks ++ (next_mark owed old rs found g ∷ found_marks owed old l later rest)) opened
    ∙ sym (ap (λ l. marks ++ found_marks owed old rs l (drop i groups)) first
    ∙ ap (λ l. marks ++ found_marks owed old rs (found ∷ later) l) next) ∙ so_far

-- All groups were marked.
pub all_marked : (owed : List ℕ) (before new : GroupForest) (old groups : List TableGroup) (i : ℕ) (rs : List Bool)
    (all : List Mark) (olds : List (Option ℕ)) → old ≡ preorder 0 before → groups ≡ preorder 0 new
    → olds ≡ old_indexes before new → length groups ≤ i
    → all ++ found_marks owed old rs (drop i olds) (drop i groups) ≡ found_marks owed old (true ∷ []) olds groups
    → all ≡ cause.marks owed before new
all_marked owed before new old groups i rs all olds old_is new_is olds_are done so_far =
    sym (append-nil all)
    ∙ sym (ap (λ l. all ++ found_marks owed old rs (drop i olds) l) (drop_all i groups done)
    ∙ ap (λ l. all ++ l) (no_marks owed old rs (drop i olds))) ∙ so_far
    ∙ ap (λ l. found_marks owed l (true ∷ []) olds groups) old_is
    ∙ ap (λ l. found_marks owed (preorder 0 before) (true ∷ []) l groups) olds_are
    ∙ ap (λ l. found_marks owed (preorder 0 before) (true ∷ []) (old_indexes before new) l) new_is
    ∙ marks_are_found owed before (index_at before) new 0 (true ∷ []) nobody [] [] (omega arith) refl (λ p. refl)
