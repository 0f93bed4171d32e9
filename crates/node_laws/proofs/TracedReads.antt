-- The own reads of the call at a path are the reads of the trace with this path.
use Rattle.std.proofs.Common.{◌≡◌, ℕ, zero, suc, ◌+◌, ◌<◌, ◌≤◌, ◌==◌, Bool, true, false, List, [], ◌∷◌, ◌++◌, map, length, length-append, get_or, Option, Some, None, if◌then◌else◌, refl, ap, sym, ◌∙◌, arith, append_assoc, eqb-true, eq-eqb}
use Rattle.std.specs.List.{filter}
use Rattle.std.specs.Bool.{Decides}
use Rattle.std.proofs.lemmas.Bool.{true≢false}
use Rattle.std.proofs.lemmas.Bool.Decides.{Decides-and}
use Rattle.std.proofs.lemmas.List.{append-nil, append_cancel_left, map-append}
use Rattle.std.proofs.lemmas.List.Elements.{filter-append}
use Rattle.std.proofs.lemmas.Option.{none-some, same_Some}
use Rattle.std.proofs.lemmas.Slice.Eq.{slice_eq-Decides}
use Rattle.rt_groups.specs.GroupForest.{GroupForest, End, Read, Group, GroupKind, Call, Node, is_call, asks, own_part, inside_own}
use Rattle.rt_groups.specs.Paths.{Path, PathStep, GroupKey, sibling, same_sibling, step, occurrence, Found, nth, matching_sibling, inside_of, at_path}
use Rattle.rt_groups.specs.Frames.{CallAtPath, nobody, innermost_call, trace}
use Rattle.path_laws.specs.SiblingEquality.{same_is, itself}
use Rattle.node_laws.specs.OwnReads.{same_step, same_path, reads_at, OwnReadsAreTraced}
use Rattle.path_laws.proofs.FoundPaths.{none_in_end}

-- Examples. In the first forest a call reads 1 and 4, and a call in its node reads 2 and 3. In the second, two calls
-- have one site.

abbrev one_call : GroupForest
one_call = Group 0 0 (Call 0 [])
    (Read 1 (Group 5 0 (Node [] []) (Group 6 0 (Call 1 []) (Read 2 (Read 3 End)) End) (Read 4 End))) End

abbrev two_calls : GroupForest
two_calls = Group 0 0 (Call 0 [])
    (Group 6 0 (Call 1 []) (Read 2 End) (Read 7 (Group 6 0 (Call 1 []) (Read 3 (Read 3 End)) End))) End

abbrev at : ℕ → ℕ → PathStep
at site n = record { of = record { site = site; key = None }; occurrence = n }

outer_reads : reads_at (at 0 0 ∷ []) (trace nobody [] [] one_call) ≡ 1 ∷ (4 ∷ [])
outer_reads = refl

inner_reads : reads_at (at 0 0 ∷ (at 5 0 ∷ (at 6 0 ∷ []))) (trace nobody [] [] one_call) ≡ 2 ∷ (3 ∷ [])
inner_reads = refl

second_reads : reads_at (at 0 0 ∷ (at 6 1 ∷ [])) (trace nobody [] [] two_calls) ≡ 3 ∷ (3 ∷ [])
second_reads = refl

root_reads : reads_at (at 0 0 ∷ []) (trace nobody [] [] two_calls) ≡ 7 ∷ []
root_reads = refl

-- The test of paths is equality.

step_decides : (a b : PathStep) → Decides (same_step a b) (a ≡ b)
step_decides a b =
    let both = Decides-and (same_sibling a.of b.of) (a.occurrence == b.occurrence)
    (same_is a.of b.of, λ e. ap (λ s. same_sibling a.of s) (sym e) ∙ itself a.of)
    (eqb-true a.occurrence b.occurrence, λ e. eq-eqb a.occurrence b.occurrence e) in (
      λ e. let h = both.0 e in ap (λ s. record { of = s; occurrence = a.occurrence }) h.0
          ∙ ap (λ n. record { of = b.of; occurrence = n }) h.1,
      λ e. both.1 (ap (λ s. s.of) e, ap (λ s. s.occurrence) e),
    )

path_decides : (p q : Path) → Decides (same_path p q) (p ≡ q)
path_decides p q = slice_eq-Decides step_decides p q (same_path p q) refl

other_path : (q p : Path) → (q ≡ p → ⊥) → same_path q p ≡ false
other_path q p n = by (same_path q p) (path_decides q p).0
  where
    by : (b : Bool) → (b ≡ true → q ≡ p) → b ≡ false
    by true h = absurd (n (h refl))
    by false h = refl

-- Reads are kept if the call has the path.

reads_append : (p : Path) (rs ss : List (CallAtPath × ℕ)) → reads_at p (rs ++ ss) ≡ reads_at p rs ++ reads_at p ss
reads_append p rs ss =
    ap (λ l. map (λ (r : CallAtPath × ℕ). r.1) l) (filter-append (λ (r : CallAtPath × ℕ). same_path r.0.path p) rs ss)
    ∙ map-append (λ (r : CallAtPath × ℕ). r.1) (filter (λ (r : CallAtPath × ℕ). same_path r.0.path p) rs)
    (filter (λ (r : CallAtPath × ℕ). same_path r.0.path p) ss)

read_if : (p : Path) (caller : CallAtPath) (x : ℕ) (rs : List (CallAtPath × ℕ)) (b : Bool) → same_path caller.path p ≡ b
    → reads_at p ((caller, x) ∷ rs) ≡ (if b then x ∷ reads_at p rs else reads_at p rs)
read_if p caller x rs true e = ap (λ (c : Bool). map (λ (r : CallAtPath × ℕ). r.1)
    (if c then (caller, x) ∷ filter (λ r. same_path r.0.path p) rs else filter (λ r. same_path r.0.path p) rs)) e
read_if p caller x rs false e = ap (λ (c : Bool). map (λ (r : CallAtPath × ℕ). r.1)
    (if c then (caller, x) ∷ filter (λ r. same_path r.0.path p) rs else filter (λ r. same_path r.0.path p) rs)) e

-- The path `p` does not begin with `here`.
abbrev IsElsewhere : Path → Path → Type 0
IsElsewhere here p = (r : Path) → here ++ r ≡ p → ⊥

elsewhere_inside : (here : Path) (s : PathStep) (p : Path) → IsElsewhere here p → IsElsewhere (here ++ s ∷ []) p
elsewhere_inside here s p h r e = h (s ∷ r) (sym (append_assoc here (s ∷ []) r) ∙ e)

elsewhere_itself : (here p : Path) → IsElsewhere here p → here ≡ p → ⊥
elsewhere_itself here p h e = h [] (append-nil here ∙ e)

elsewhere_longer : (here : Path) (s : PathStep) (p : Path) → length p ≤ length here → IsElsewhere (here ++ s ∷ []) p
elsewhere_longer here s p h r e =
    let all = length-append (here ++ s ∷ []) r in
    let front = length-append here (s ∷ []) in
    let same = ap length e in
    absurd (omega (arith, all, front, same, h))

elsewhere_beside : (here : Path) (a b : PathStep) (q p : Path) → here ++ b ∷ q ≡ p → (a ≡ b → ⊥)
    → IsElsewhere (here ++ a ∷ []) p
elsewhere_beside here a b q p is n r e =
    n (ap (λ (l : Path). get_or l 0 a)
    (append_cancel_left here (a ∷ r) (b ∷ q) (sym (append_assoc here (a ∷ []) r) ∙ e ∙ sym is)))

other_caller : (caller : CallAtPath) (path p : Path) (what : GroupKind) → (caller.path ≡ p → ⊥) → (path ≡ p → ⊥)
    → (innermost_call caller path what).path ≡ p → ⊥
other_caller caller path p (Call f vs) n m = m
other_caller caller path p _ n m = n

-- No call at `here` or deeper has the path.
none_elsewhere : (t : GroupForest) (p : Path) (caller : CallAtPath) (here : Path) (seen : List GroupKey)
    → (caller.path ≡ p → ⊥) → IsElsewhere here p → reads_at p (trace caller here seen t) ≡ []
none_elsewhere End p caller here seen n h = refl
none_elsewhere (Read x rest) p caller here seen n h =
    read_if p caller x (trace caller here seen rest) false (other_path caller.path p n)
    ∙ none_elsewhere rest p caller here seen n h
none_elsewhere (Group site k what inside rest) p caller here seen n h =
    let path : Path = here ++ step site what seen ∷ [] in
    let deeper : IsElsewhere path p = elsewhere_inside here (step site what seen) p h in
    reads_append p (trace (innermost_call caller path what) path [] inside)
    (trace caller here (sibling site what ∷ seen) rest)
    ∙ ap (λ l. l ++ reads_at p (trace caller here (sibling site what ∷ seen) rest))
    (none_elsewhere inside p (innermost_call caller path what) path []
    (other_caller caller path p what n (elsewhere_itself path p deeper)) deeper)
    ∙ none_elsewhere rest p caller here (sibling site what ∷ seen) n h

-- The part of the call at the path has its own reads.
own_reads : (t : GroupForest) (p : Path) (caller : CallAtPath) (here : Path) (seen : List GroupKey) → caller.path ≡ p
    → length p ≤ length here → reads_at p (trace caller here seen t) ≡ asks (own_part t)
own_reads End p caller here seen same h = refl
own_reads (Read x rest) p caller here seen same h =
    read_if p caller x (trace caller here seen rest) true ((path_decides caller.path p).1 same)
    ∙ ap (λ l. x ∷ l) (own_reads rest p caller here seen same h)
own_reads (Group site k what inside rest) p caller here seen same h =
    reads_append p (trace (innermost_call caller path what) path [] inside)
    (trace caller here (sibling site what ∷ seen) rest)
    ∙ ap (λ l. l ++ reads_at p (trace caller here (sibling site what ∷ seen) rest))
    (within what (elsewhere_longer here (step site what seen) p h) (own_reads inside p caller path [] same longer))
    ∙ ap (λ l. asks (inside_own what (own_part inside)) ++ l)
    (own_reads rest p caller here (sibling site what ∷ seen) same h)
  where
    path : Path
    path = here ++ step site what seen ∷ []

    longer : length p ≤ length path
    longer = let front = length-append here (step site what seen ∷ []) in omega (arith, front, h)

    within : (kind : GroupKind) → IsElsewhere path p → reads_at p (trace caller path [] inside) ≡ asks (own_part inside)
        → reads_at p (trace (innermost_call caller path kind) path [] inside) ≡ asks (inside_own kind (own_part inside))
    within (Call f vs) away deeper =
        none_elsewhere inside p (record { path = path; what = Call f vs }) path [] (elsewhere_itself path p away) away
    within _ away deeper = deeper

-- No sibling after the one on the path has reads of the path.
none_later : (t : GroupForest) (caller : CallAtPath) (here : Path) (s : GroupKey) (n : ℕ) (q p : Path)
    (seen : List GroupKey) → here ++ record { of = s; occurrence = n } ∷ q ≡ p → (caller.path ≡ p → ⊥)
    → n < occurrence s seen → reads_at p (trace caller here seen t) ≡ []
none_later End caller here s n q p seen is other h = refl
none_later (Read x rest) caller here s n q p seen is other h =
    read_if p caller x (trace caller here seen rest) false (other_path caller.path p other)
    ∙ none_later rest caller here s n q p seen is other h
none_later (Group site k what inside rest) caller here s n q p seen is other h =
    let path : Path = here ++ step site what seen ∷ [] in
    let apart : step site what seen ≡ record { of = s; occurrence = n } → ⊥ = λ e.
    let first : occurrence (sibling site what) seen ≡ n = ap (λ r. r.occurrence) e in
    let second : occurrence (sibling site what) seen ≡ occurrence s seen = ap (λ r. occurrence r.of seen) e in
    absurd (omega (arith, first, second, h)) in
    let away : IsElsewhere path p =
    elsewhere_beside here (step site what seen) (record { of = s; occurrence = n }) q p is apart in
    reads_append p (trace (innermost_call caller path what) path [] inside)
    (trace caller here (sibling site what ∷ seen) rest)
    ∙ ap (λ l. l ++ reads_at p (trace caller here (sibling site what ∷ seen) rest))
    (none_elsewhere inside p (innermost_call caller path what) path []
    (other_caller caller path p what other (elsewhere_itself path p away)) away)
    ∙ none_later rest caller here s n q p (sibling site what ∷ seen) is other (omega (arith, h))

-- The group at a path inside the group that was found.
abbrev lookup : Path → Option Found → Option Found
lookup [] f = f
lookup (s ∷ p) f = at_path (s ∷ p) (inside_of f)

first_step : (s : PathStep) (p : Path) (t : GroupForest)
    → at_path (s ∷ p) t ≡ lookup p (matching_sibling s.of s.occurrence t)
first_step s [] t = refl
first_step s (r ∷ p) t = refl

none_in_none : (p : Path) → lookup p None ≡ None
none_in_none [] = refl
none_in_none (s ∷ p) = none_in_end (s ∷ p)

no_group : {g : Found} → None ≡ Some g → ⊥
no_group {g} e = none-some g e

short_caller : (caller : CallAtPath) (here : Path) (s : PathStep) (what : GroupKind) → length caller.path ≤ length here
    → length (innermost_call caller (here ++ s ∷ []) what).path ≤ length (here ++ s ∷ [])
short_caller caller here s (Call f vs) h = omega arith
short_caller caller here s _ h = let front = length-append here (s ∷ []) in omega (arith, front, h)

found_reads : (t : GroupForest) (caller : CallAtPath) (here : Path) (s : GroupKey) (n : ℕ) (q p : Path)
    (seen : List GroupKey) (g : Found) → here ++ record { of = s; occurrence = occurrence s seen + n } ∷ q ≡ p
    → length caller.path ≤ length here
    → lookup q (matching_sibling s n t) ≡ Some g → is_call g.what ≡ true
    → reads_at p (trace caller here seen t) ≡ asks (own_part g.inside)
found_reads End caller here s n q p seen g is short e call = absurd (no_group (sym (none_in_none q) ∙ e))
found_reads (Read x rest) caller here s n q p seen g is short e call =
    read_if p caller x (trace caller here seen rest) false (other_path caller.path p other)
    ∙ found_reads rest caller here s n q p seen g is short e call
  where
    other : caller.path ≡ p → ⊥
    other same =
        let all = length-append here (record { of = s; occurrence = occurrence s seen + n } ∷ q) in
        let whole = ap length is in
        let mine = ap length same in
        absurd (omega (arith, all, whole, mine, short))
found_reads (Group site k what inside rest) caller here s n q p seen g is short e call =
    reads_append p (trace (innermost_call caller path what) path [] inside)
    (trace caller here (sibling site what ∷ seen) rest)
    ∙ by (same_sibling (sibling site what) s) refl n is e
    (λ m f d. found_reads rest caller here s m q p (sibling site what ∷ seen) g f short d call)
    (λ r o f d. found_reads inside (innermost_call caller path what) path r.of r.occurrence o p [] g f
    (short_caller caller here here_step what short) d call)
  where
    here_step : PathStep
    here_step = step site what seen

    path : Path
    path = here ++ here_step ∷ []

    group : Found
    group = record { number = k; what = what; inside = inside }

    within : List ℕ
    within = reads_at p (trace (innermost_call caller path what) path [] inside)

    later : List ℕ
    later = reads_at p (trace caller here (sibling site what ∷ seen) rest)

    Goal : Type 0
    Goal = within ++ later ≡ asks (own_part g.inside)

    other : (m : ℕ) → here ++ record { of = s; occurrence = m } ∷ q ≡ p → caller.path ≡ p → ⊥
    other m is same =
        let all = length-append here (record { of = s; occurrence = m } ∷ q) in
        let whole = ap length is in
        let mine = ap length same in
        absurd (omega (arith, all, whole, mine, short))

    -- The path goes on in a later sibling.
    in_later : (m : ℕ) → here ++ record { of = s; occurrence = m } ∷ q ≡ p
        → (here_step ≡ record { of = s; occurrence = m } → ⊥) → later ≡ asks (own_part g.inside) → Goal
    in_later m is apart go =
        let away : IsElsewhere path p =
        elsewhere_beside here here_step (record { of = s; occurrence = m }) q p is apart in
        ap (λ l. l ++ later) (none_elsewhere inside p (innermost_call caller path what) path []
        (other_caller caller path p what (other m is) (elsewhere_itself path p away)) away) ∙ go

    -- The path goes through this group.
    in_this : (m : ℕ) → here ++ record { of = s; occurrence = m } ∷ q ≡ p → m < occurrence s (sibling site what ∷ seen)
        → within ≡ asks (own_part g.inside) → Goal
    in_this m is passed go =
        ap (λ l. within ++ l) (none_later rest caller here s m q p (sibling site what ∷ seen) is (other m is) passed)
        ∙ append-nil within ∙ go

    first : (o : Path) → path ++ o ≡ p → lookup o (Some group) ≡ Some g
        → ((r : PathStep) (o : Path) → path ++ record { of = r.of; occurrence = 0 + r.occurrence } ∷ o ≡ p
        → lookup o (matching_sibling r.of r.occurrence inside) ≡ Some g → within ≡ asks (own_part g.inside))
        → within ≡ asks (own_part g.inside)
    first [] is e deeper =
        let this : group ≡ g = same_Some group g e in
        let here_call : is_call what ≡ true = ap (λ f. is_call f.what) this ∙ call in
        let whole : path ≡ p = sym (append-nil path) ∙ is in
        let mine : (innermost_call caller path what).path ≡ p =
        ap (λ b. (if b then record { path = path; what = what } else caller).path) here_call ∙ whole in
        own_reads inside p (innermost_call caller path what) path [] mine
        (let long = ap length whole in omega (arith, long)) ∙ ap (λ f. asks (own_part f.inside)) this
    first (r ∷ o) is e deeper =
        let sum : 0 + r.occurrence ≡ r.occurrence = omega arith in
        deeper r o (ap (λ m. path ++ record { of = r.of; occurrence = m } ∷ o) sum ∙ is)
        (sym (first_step r o inside) ∙ e)

    same_step_here : sibling site what ≡ s → here_step ≡ record { of = s; occurrence = occurrence s seen + 0 }
    same_step_here e = let sum : occurrence s seen ≡ occurrence s seen + 0 = omega arith in
        ap (λ r. record { of = r; occurrence = occurrence r seen }) e ∙ ap (λ j. record { of = s; occurrence = j }) sum

    by : (b : Bool) → b ≡ same_sibling (sibling site what) s → (n : ℕ)
        → here ++ record { of = s; occurrence = occurrence s seen + n } ∷ q ≡ p
        → lookup q (if b then nth n group (λ j. matching_sibling s j rest) else matching_sibling s n rest) ≡ Some g
        → ((m : ℕ) → here ++ record { of = s; occurrence = occurrence s (sibling site what ∷ seen) + m } ∷ q ≡ p
        → lookup q (matching_sibling s m rest) ≡ Some g → later ≡ asks (own_part g.inside))
        → ((r : PathStep) (o : Path) → path ++ record { of = r.of; occurrence = 0 + r.occurrence } ∷ o ≡ p
        → lookup o (matching_sibling r.of r.occurrence inside) ≡ Some g → within ≡ asks (own_part g.inside)) → Goal
    by true b zero is e after deeper =
        let counts : occurrence s (sibling site what ∷ seen) ≡ 1 + occurrence s seen =
        ap (λ c. (if c then 1 else 0) + occurrence s seen) (sym b) in
        in_this (occurrence s seen + 0) is (omega (arith, counts))
        (first q (append_assoc here (here_step ∷ []) q
        ∙ ap (λ r. here ++ r ∷ q) (same_step_here (same_is (sibling site what) s (sym b))) ∙ is) e deeper)
    by true b (suc n) is e after deeper =
        let counts : occurrence s (sibling site what ∷ seen) ≡ 1 + occurrence s seen =
        ap (λ c. (if c then 1 else 0) + occurrence s seen) (sym b) in
        let sum : occurrence s (sibling site what ∷ seen) + n ≡ occurrence s seen + suc n = omega (arith, counts) in
        in_later (occurrence s seen + suc n) is
        (λ e. let first : occurrence (sibling site what) seen ≡ occurrence s seen + suc n = ap (λ r. r.occurrence) e in
        let second : occurrence (sibling site what) seen ≡ occurrence s seen = ap (λ r. occurrence r.of seen) e in
        absurd (omega (arith, first, second)))
        (after n (ap (λ j. here ++ record { of = s; occurrence = j } ∷ q) sum ∙ is) e)
    by false b n is e after deeper =
        let counts : occurrence s (sibling site what ∷ seen) ≡ 0 + occurrence s seen =
        ap (λ c. (if c then 1 else 0) + occurrence s seen) (sym b) in
        let sum : occurrence s (sibling site what ∷ seen) + n ≡ occurrence s seen + n = omega (arith, counts) in
        in_later (occurrence s seen + n) is
        (λ e. true≢false (sym (itself s) ∙ ap (λ r. same_sibling r s) (sym (ap (λ r. r.of) e)) ∙ sym b))
        (after n (ap (λ j. here ++ record { of = s; occurrence = j } ∷ q) sum ∙ is) e)

pub own_reads_are_traced : OwnReadsAreTraced
own_reads_are_traced t [] g e call = absurd (no_group e)
own_reads_are_traced t (s ∷ q) g e call =
    let sum : 0 + s.occurrence ≡ s.occurrence = omega arith in
    found_reads t nobody [] s.of s.occurrence q (s ∷ q) [] g (ap (λ j. record { of = s.of; occurrence = j } ∷ q) sum)
    (omega arith) (sym (first_step s q t) ∙ e) call
