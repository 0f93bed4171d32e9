-- Old groups in preorder represent an old forest: the match of a new group is the group that its path finds.
use Rattle.std.proofs.Common.{◌≡◌, ◌<◌, ℕ, zero, suc, ◌+◌, ◌==◌, nat_lt, Bool, true, false, List, [], ◌∷◌, ◌++◌, length, length-append, drop, Option, Some, None, if◌then◌else◌, refl, ap, sym, subst, ◌∙◌, arith, append_assoc}
use Rattle.std.specs.Prelude.{slice_get}
use Rattle.std.proofs.lemmas.Bool.{eqb-true, eq-eqb, ltb-true}
use Rattle.std.proofs.lemmas.List.{drop-drop}
use Rattle.rt_groups.specs.declared.groups.Group.{Group as TableGroup}
use Rattle.rt_groups.specs.GroupForest.{GroupForest, End, Read, Group, GroupKind, Call, Node, Key, Cell}
use Rattle.rt_groups.specs.Paths.{GroupKey, same_sibling, sibling, occurrence, Found, nth, matching_sibling, inside_of, key_of}
use Rattle.rt_groups.specs.PreorderGroups.{flat_kind, flat_reads, flat_group, preorder}
use Rattle.slot_table.specs.TableGroups.{group_at}
use Rattle.slot_table.specs.ReaderStates.{group_key}
use Rattle.composer.specs.declared.pending.Pending.{Pending}
use Rattle.composer.specs.OldSiblings.{KeyInfo, groups_after, sibling_key, sibling_indexes, level_indexes, infos_at, inner_siblings, found_siblings}
use Rattle.composer.specs.Waiting.{waiting_siblings}
use Rattle.composer.specs.OldGroups.{Ends, Begins, SameGroup, Alike, Fits}
use Rattle.composer.proofs.LevelIndexes.{deeper, level}

-- A group of the table has the key of the group.
same_key : (what : GroupKind) → group_key (flat_kind what) ≡ key_of what
same_key (Call f vs) = refl
same_key (Node kind attributes) = refl
same_key (Key v) = refl
same_key (Cell ks v) = refl

pub key_kept : (d site number : ℕ) (what : GroupKind) (reads : List ℕ)
    → sibling_key (flat_group d site number (flat_kind what) reads) ≡ sibling site what
key_kept d site number what reads = ap (λ k. record { site = site; key = k }) (same_key what)

-- The group at an index, and those after it.
pub next_of : (groups gs : List TableGroup) (g : TableGroup) (i : ℕ) → drop i groups ≡ g ∷ gs
    → (group_at groups i ≡ g) × (drop (suc i) groups ≡ gs)
next_of [] gs g zero e = absurd cc
next_of [] gs g (suc i) e = absurd cc
next_of (h ∷ hs) gs g zero e = (cc, cc)
next_of (h ∷ hs) gs g (suc i) e = next_of hs gs g i e

drop_front : {X : Type 0} (xs ys : List X) → drop (length xs) (xs ++ ys) ≡ ys
drop_front [] ys = refl
drop_front (x ∷ xs) ys = drop_front xs ys

-- The groups after the first ones.
pub later_groups : (groups front more : List TableGroup) (i : ℕ) → drop i groups ≡ front ++ more
    → drop (i + length front) groups ≡ more
later_groups groups front more i e =
    sym (drop-drop (length front) i groups) ∙ ap (λ l. drop (length front) l) e ∙ drop_front front more

-- Old groups in preorder, taken apart.

pub ends_deeper : (d : ℕ) (t : GroupForest) (more : List TableGroup) → Ends d more → Ends (d + 1) (preorder d t ++ more)
ends_deeper d End [] e = tt
ends_deeper d End (g ∷ gs) e = omega (arith, e)
ends_deeper d (Read x rest) more e = ends_deeper d rest more e
ends_deeper d (Group site n what inside rest) more e = omega arith

ended : (s : GroupKey) (d i : ℕ) (more : List TableGroup) → Ends d more → sibling_indexes s d i more ≡ []
ended s d i [] e = refl
ended s d i (g ∷ gs) e = by (g.depth == d) refl (nat_lt d g.depth) refl
  where
    by : (b : Bool) → (g.depth == d) ≡ b → (c : Bool) → nat_lt d g.depth ≡ c
        → (if b then (if same_sibling (sibling_key g) s then i ∷ sibling_indexes s d (i + 1) gs
        else sibling_indexes s d (i + 1) gs) else (if c then sibling_indexes s d (i + 1) gs else [])) ≡ []
    by true f c h = absurd (let same = eqb-true g.depth d f in omega (arith, same, e))
    by false f true h = absurd (let lt = ltb-true d g.depth h in omega (arith, lt, e))
    by false f false h = refl

-- The groups of a deeper forest are passed over.
deep_passed : (s : GroupKey) (d e i : ℕ) (t : GroupForest) (more : List TableGroup) → d < e
    → sibling_indexes s d i (preorder e t ++ more) ≡ sibling_indexes s d (i + length (preorder e t)) more
deep_passed s d e i End more lt = let same : i ≡ i + 0 = omega arith in ap (λ n. sibling_indexes s d n more) same
deep_passed s d e i (Read x rest) more lt = deep_passed s d e i rest more lt
deep_passed s d e i (Group site n what inside rest) more lt =
    let first : TableGroup = flat_group e site n (flat_kind what) (flat_reads what inside) in
    let long = length-append (preorder (e + 1) inside) (preorder e rest) in
    let sum : ((i + 1) + length (preorder (e + 1) inside)) + length (preorder e rest) ≡ i + suc (length (preorder (e + 1) inside ++ preorder e rest)) = omega (arith, long) in
    deeper s d i first ((preorder (e + 1) inside ++ preorder e rest) ++ more) lt
    ∙ ap (λ l. sibling_indexes s d (i + 1) l) (append_assoc (preorder (e + 1) inside) (preorder e rest) more)
    ∙ deep_passed s d (e + 1) (i + 1) inside (preorder e rest ++ more) (omega (arith, lt))
    ∙ deep_passed s d e ((i + 1) + length (preorder (e + 1) inside)) rest more lt
    ∙ ap (λ m. sibling_indexes s d m more) sum

-- The siblings from a group on: the group itself, and those after the groups inside it.
level_kept : (s : GroupKey) (d i : ℕ) (g : TableGroup) (gs : List TableGroup) (later : List ℕ) → g.depth ≡ d
    → sibling_indexes s d (i + 1) gs ≡ later
    → sibling_indexes s d i (g ∷ gs) ≡ (if same_sibling (sibling_key g) s then i ∷ later else later)
level_kept s d i g gs later same e =
    ap (λ b. if b then (if same_sibling (sibling_key g) s then i ∷ sibling_indexes s d (i + 1) gs
    else sibling_indexes s d (i + 1) gs) else (if nat_lt d g.depth then sibling_indexes s d (i + 1) gs else []))
    (eq-eqb g.depth d same)
    ∙ ap (λ l. if same_sibling (sibling_key g) s then i ∷ l else l) e

-- The first group of a forest.
pub first_same : (groups : List TableGroup) (d i site n : ℕ) (what : GroupKind) (inside rest : GroupForest)
    (more : List TableGroup) → drop i groups ≡ preorder d (Group site n what inside rest) ++ more → Ends d more
    → SameGroup d (record { groups = groups; index = i }) (record { number = n; what = what; inside = inside })
first_same groups d i site n what inside rest more e ends =
    let g : TableGroup = flat_group d site n (flat_kind what) (flat_reads what inside) in
    let next = next_of groups ((preorder (d + 1) inside ++ preorder d rest) ++ more) g i e in
    let after : i + 1 ≡ suc i = omega arith in
    record {
      depth_is = ap (λ h. h.depth) next.0;
      number = ap (λ h. h.number) next.0;
      kind = ap (λ h. h.what) next.0;
      reads = ap (λ h. h.reads) next.0;
      begins = record {
        more = preorder d rest ++ more;
        is = ap (λ m. drop m groups) after ∙ next.1 ∙ append_assoc (preorder (d + 1) inside) (preorder d rest) more;
        ends = ends_deeper d rest more ends;
      };
    }

-- The old sibling with n others before it that have its site and key.
nth_alike : (groups : List TableGroup) (s : GroupKey) (d n i : ℕ) (t : GroupForest) (more : List TableGroup)
    → drop i groups ≡ preorder d t ++ more → Ends d more
    → Alike d (slice_get (infos_at groups (sibling_indexes s d i (preorder d t ++ more))) n) (matching_sibling s n t)
nth_alike groups s d n i End more e ends =
    subst (λ (l : List ℕ). Alike d (slice_get (infos_at groups l) n) None) (sym (ended s d i more ends)) (none n)
  where
    none : (m : ℕ) → Alike d (slice_get (infos_at groups []) m) None
    none m = tt
nth_alike groups s d n i (Read x rest) more e ends = nth_alike groups s d n i rest more e ends
nth_alike groups s d n i (Group site number what inside rest) more e ends =
    subst (λ (l : List ℕ). Alike d (slice_get (infos_at groups l) n)
    (matching_sibling s n (Group site number what inside rest))) (sym here)
    (by (same_sibling (sibling site what) s) (λ m. nth_alike groups s d m j rest more there ends))
  where
    g : TableGroup
    g = flat_group d site number (flat_kind what) (flat_reads what inside)

    found : Found
    found = record { number = number; what = what; inside = inside }

    j : ℕ
    j = (i + 1) + length (preorder (d + 1) inside)

    later : List ℕ
    later = sibling_indexes s d j (preorder d rest ++ more)

    seam : (preorder (d + 1) inside ++ preorder d rest) ++ more ≡ preorder (d + 1) inside ++ (preorder d rest ++ more)
    seam = append_assoc (preorder (d + 1) inside) (preorder d rest) more

    there : drop j groups ≡ preorder d rest ++ more
    there =
        let after : i + 1 ≡ suc i = omega arith in
        later_groups groups (preorder (d + 1) inside) (preorder d rest ++ more) (i + 1)
        (ap (λ m. drop m groups) after
        ∙ (next_of groups ((preorder (d + 1) inside ++ preorder d rest) ++ more) g i e).1 ∙ seam)

    here : sibling_indexes s d i (preorder d (Group site number what inside rest) ++ more)
        ≡ (if same_sibling (sibling site what) s then i ∷ later else later)
    here =
        level_kept s d i g ((preorder (d + 1) inside ++ preorder d rest) ++ more) later refl
        (ap (λ l. sibling_indexes s d (i + 1) l) seam
        ∙ deep_passed s d (d + 1) (i + 1) inside (preorder d rest ++ more) (omega arith))
        ∙ ap (λ (x : GroupKey). if same_sibling x s then i ∷ later else later)
        (key_kept d site number what (flat_reads what inside))

    at : (m : ℕ) → ((k : ℕ) → Alike d (slice_get (infos_at groups later) k) (matching_sibling s k rest))
        → Alike d (slice_get (infos_at groups (i ∷ later)) m) (nth m found (λ k. matching_sibling s k rest))
    at zero more_alike = first_same groups d i site number what inside rest more e ends
    at (suc m) more_alike = more_alike m

    by : (b : Bool) → ((k : ℕ) → Alike d (slice_get (infos_at groups later) k) (matching_sibling s k rest))
        → Alike d (slice_get (infos_at groups (if b then i ∷ later else later)) n)
        (if b then nth n found (λ k. matching_sibling s k rest) else matching_sibling s n rest)
    by true more_alike = at n more_alike
    by false more_alike = more_alike n

-- The first group is not too deep.
level_first : (s : GroupKey) (d i : ℕ) (gs : List TableGroup) → Ends (d + 1) gs
    → level_indexes s d i gs ≡ sibling_indexes s d i gs
level_first s d i [] e = refl
level_first s d i (g ∷ gs) e = level s d i g gs (omega (arith, e))

level_alike : (groups : List TableGroup) (s : GroupKey) (d n i : ℕ) (t : GroupForest) → Begins d (drop i groups) t
    → Alike d (slice_get (infos_at groups (level_indexes s d i (drop i groups))) n) (matching_sibling s n t)
level_alike groups s d n i t b =
    subst (λ (l : List ℕ). Alike d (slice_get (infos_at groups l) n) (matching_sibling s n t))
    (sym (ap (λ l. level_indexes s d i l) b.is
    ∙ level_first s d i (preorder d t ++ b.more) (ends_deeper d t b.more b.ends)))
    (nth_alike groups s d n i t b.more b.is b.ends)

-- The old siblings before any new one.

fits_from : (d : ℕ) (p : Pending) (old : GroupForest) (kept : GroupKey → List KeyInfo)
    → ((s : GroupKey) → waiting_siblings p s ≡ kept s)
    → ((s : GroupKey) (n : ℕ) → Alike d (slice_get (kept s) n) (matching_sibling s n old)) → Fits d p old []
fits_from d p old kept is alike s n =
    let count : n ≡ occurrence s [] + n = omega arith in
    subst (λ (l : List KeyInfo). Alike d (slice_get l n) (matching_sibling s (occurrence s [] + n) old)) (sym (is s))
    (subst (λ m. Alike d (slice_get (kept s) n) (matching_sibling s m old)) count (alike s n))

none_alike : (d n : ℕ) (s : GroupKey) (kept : List KeyInfo) → kept ≡ [] → Alike d (slice_get kept n) None
none_alike d n s kept e = subst (λ (l : List KeyInfo). Alike d (slice_get l n) None) (sym e) tt

pub fits_none : (d : ℕ) (p : Pending) (seen : List GroupKey) → ((s : GroupKey) → waiting_siblings p s ≡ []) → Fits d p End seen
fits_none d p seen none s n = none_alike d n s (waiting_siblings p s) (none s)

pub fits_inside : (d : ℕ) (p : Pending) (k : Option KeyInfo) (f : Option Found)
    → ((s : GroupKey) → waiting_siblings p s ≡ found_siblings k s) → Alike d k f → Fits (d + 1) p (inside_of f) []
fits_inside d p None None is a = fits_none (d + 1) p [] is
fits_inside d p None (Some f) is a = absurd a
fits_inside d p (Some k) None is a = absurd a
fits_inside d p (Some k) (Some f) is a =
    fits_from (d + 1) p f.inside (λ s. inner_siblings k s) is (λ s n.
    subst (λ m. Alike (d + 1) (slice_get (infos_at k.groups (level_indexes s (m + 1) (k.index + 1) (groups_after k))) n)
    (matching_sibling s n f.inside)) (sym a.depth_is)
    (level_alike k.groups s (d + 1) n (k.index + 1) f.inside a.begins))

-- The old siblings after one was taken.

pub fits_found : (d : ℕ) (p : Pending) (old : GroupForest) (seen : List GroupKey) (x : GroupKey)
    (found : Option KeyInfo) → found ≡ slice_get (waiting_siblings p x) 0 → Fits d p old seen
    → Alike d found (matching_sibling x (occurrence x seen) old)
fits_found d p old seen x found is fits =
    let count : occurrence x seen + 0 ≡ occurrence x seen = omega arith in
    subst (λ (k : Option KeyInfo). Alike d k (matching_sibling x (occurrence x seen) old)) (sym is)
    (subst (λ m. Alike d (slice_get (waiting_siblings p x) 0) (matching_sibling x m old)) count (fits x 0))

got_later : (ks : List KeyInfo) (n : ℕ) → slice_get (drop 1 ks) n ≡ slice_get ks (suc n)
got_later [] n = refl
got_later (k ∷ ks) n = refl

next_alike : (d n count : ℕ) (s : GroupKey) (b : Bool) (was now : List KeyInfo) (old : GroupForest)
    → now ≡ (if b then drop 1 was else was) → ((m : ℕ) → Alike d (slice_get was m) (matching_sibling s (count + m) old))
    → Alike d (slice_get now n) (matching_sibling s (((if b then 1 else 0) + count) + n) old)
next_alike d n count s true was now old e fits =
    let sum : count + suc n ≡ (1 + count) + n = omega arith in
    subst (λ (k : Option KeyInfo). Alike d k (matching_sibling s ((1 + count) + n) old))
    (sym (ap (λ l. slice_get l n) e ∙ got_later was n))
    (subst (λ m. Alike d (slice_get was (suc n)) (matching_sibling s m old)) sum (fits (suc n)))
next_alike d n count s false was now old e fits =
    let sum : count + n ≡ (0 + count) + n = omega arith in
    subst (λ (l : List KeyInfo). Alike d (slice_get l n) (matching_sibling s ((0 + count) + n) old)) (sym e)
    (subst (λ m. Alike d (slice_get was n) (matching_sibling s m old)) sum (fits n))

pub fits_next : (d : ℕ) (p q : Pending) (old : GroupForest) (seen : List GroupKey) (x : GroupKey)
    → ((s : GroupKey) → waiting_siblings q s ≡ (if same_sibling x s then drop 1 (waiting_siblings p s) else waiting_siblings p s))
    → Fits d p old seen → Fits d q old (x ∷ seen)
fits_next d p q old seen x left fits s n =
    next_alike d n (occurrence s seen) s (same_sibling x s) (waiting_siblings p s) (waiting_siblings q s) old (left s) (λ m. fits s m)
