-- The groups of a new frame as runs of old groups and new groups.
use Rattle.std.proofs.Common.{◌≡◌, ◌≤◌, ◌<◌, ℕ, zero, suc, Bool, true, false, if◌then◌else◌, ◌+◌, ◌-◌, List, [], ◌∷◌, ◌++◌, length, length-append, length-drop, length-set, take, drop, get_or, set, refl, ap, ◌∙◌, sym, subst, arith, append_assoc, append-nil}
use Rattle.std.proofs.lemmas.List.{take-append-le, length-take-le, take_all, drop-drop, get_or-set_same, get_or_append_left, set-append_left, set-get_or}
use Rattle.std.proofs.Math.Seq.{set-append_seam, get_or-append_seam}
use Rattle.rt_groups.specs.declared.groups.Group.{Group}
use Rattle.slot_table.proofs.GroupRuns.{run_grows}
use Rattle.slot_table.specs.TableGroups.{group_at, is_node_kind, with_reads}
use Rattle.slot_table.specs.ChangeLists.{ChangedGroups, nodes_in}
use Rattle.slot_table.specs.declared.runs.KeptRun.{KeptRun}
use Rattle.slot_table.specs.KeptRuns.{run_groups, patched, gaps, AreInside, ArePlaces, AreOrdered, IsWritten, IsRunAdded}

drop_last : (k : ℕ) (gs : List Group) (g : Group) → k ≤ length gs → drop k (gs ++ g ∷ []) ≡ drop k gs ++ g ∷ []
drop_last zero gs g le = refl
drop_last (suc k) [] g le = absurd (omega (arith, le))
drop_last (suc k) (x ∷ gs) g le = drop_last k gs g (omega (arith, le))

-- A new group is appended after the last run.
pub patched_push : (olds fresh : List Group) (rs : List KeptRun) (g : Group) → gaps rs ≤ length fresh
    → patched olds (fresh ++ g ∷ []) rs ≡ patched olds fresh rs ++ g ∷ []
patched_push olds fresh [] g le = refl
patched_push olds fresh (r ∷ rs) g le =
    let rest = length-drop r.gap fresh in
    let later : patched olds (drop r.gap fresh ++ g ∷ []) rs ≡ patched olds (drop r.gap fresh) rs ++ g ∷ [] =
    patched_push olds (drop r.gap fresh) rs g (omega (arith, rest, le)) in
    ap (λ l. l ++ (run_groups olds r ++ patched olds (drop r.gap (fresh ++ g ∷ [])) rs))
    (take-append-le r.gap fresh (g ∷ []) (omega (arith, le)))
    ∙ ap (λ l. take r.gap fresh ++ (run_groups olds r ++ patched olds l rs))
    (drop_last r.gap fresh g (omega (arith, le)))
    ∙ ap (λ l. take r.gap fresh ++ (run_groups olds r ++ l)) later
    ∙ ap (λ l. take r.gap fresh ++ l) (sym (append_assoc (run_groups olds r) (patched olds (drop r.gap fresh) rs)
    (g ∷ [])))
    ∙ sym (append_assoc (take r.gap fresh) (run_groups olds r ++ patched olds (drop r.gap fresh) rs) (g ∷ []))

-- A run is appended after all new groups.
pub patched_run : (olds fresh : List Group) (rs : List KeptRun) (r : KeptRun) → gaps rs + r.gap ≡ length fresh
    → patched olds fresh (rs ++ r ∷ []) ≡ patched olds fresh rs ++ run_groups olds r
patched_run olds fresh [] r e =
    let all : take r.gap fresh ≡ fresh = take_all r.gap fresh (omega (arith, e)) in
    let none : drop r.gap fresh ≡ [] = nothing_left r.gap fresh (omega (arith, e)) in
    ap (λ l. l ++ (run_groups olds r ++ drop r.gap fresh)) all
    ∙ ap (λ l. fresh ++ (run_groups olds r ++ l)) none
    ∙ ap (λ l. fresh ++ l) (append-nil (run_groups olds r))
  where
    nothing_left : (k : ℕ) (gs : List Group) → k ≡ length gs → drop k gs ≡ []
    nothing_left zero [] e = refl
    nothing_left zero (g ∷ gs) e = absurd (omega (arith, e))
    nothing_left (suc k) [] e = refl
    nothing_left (suc k) (g ∷ gs) e = nothing_left k gs (omega (arith, e))
patched_run olds fresh (x ∷ rs) r e =
    let rest = length-drop x.gap fresh in
    let later : patched olds (drop x.gap fresh) (rs ++ r ∷ [])
    ≡ patched olds (drop x.gap fresh) rs ++ run_groups olds r =
    patched_run olds (drop x.gap fresh) rs r (omega (arith, rest, e)) in
    ap (λ l. take x.gap fresh ++ (run_groups olds x ++ l)) later
    ∙ ap (λ l. take x.gap fresh ++ l) (sym (append_assoc (run_groups olds x) (patched olds (drop x.gap fresh) rs)
    (run_groups olds r)))
    ∙ sym (append_assoc (take x.gap fresh) (run_groups olds x ++ patched olds (drop x.gap fresh) rs)
    (run_groups olds r))

gaps_last : (rs : List KeptRun) (r : KeptRun) → gaps (rs ++ r ∷ []) ≡ gaps rs + r.gap
gaps_last [] r = omega arith
gaps_last (x ∷ rs) r = let later = gaps_last rs r in omega (arith, later)

inside_last : (olds : List Group) (rs : List KeptRun) (r : KeptRun) → AreInside olds rs → r.from ≤ r.to
    → r.to ≤ length olds → AreInside olds (rs ++ r ∷ [])
inside_last olds [] r all low high = (low, high, tt)
inside_last olds (x ∷ rs) r all low high = (all.0, all.1, inside_last olds rs r all.2 low high)

inside_before : (olds : List Group) (rs : List KeptRun) (r : KeptRun) → AreInside olds (rs ++ r ∷ [])
    → AreInside olds rs × (r.from ≤ r.to)
inside_before olds [] r all = (tt, all.0)
inside_before olds (x ∷ rs) r all = let later = inside_before olds rs r all.2 in ((all.0, all.1, later.0), later.1)

-- A new run is added after the last run.
pub run_added : (olds : List Group) (rs : List KeptRun) (r : KeptRun) → AreInside olds rs → r.from ≤ r.to
    → r.to ≤ length olds → IsRunAdded olds rs (rs ++ r ∷ []) r.gap r.from r.to
run_added olds rs r all low high = record {
  inside = inside_last olds rs r all low high;
  gaps_are = gaps_last rs r;
  groups_are = λ fresh e. patched_run olds fresh rs r e;
}

-- The first items of a list in two parts.
pub take_more_of : {X : Type 0} (gs : List X) (k j : ℕ) → take (k + j) gs ≡ take k gs ++ take j (drop k gs)
take_more_of gs zero j = ap (λ n. take n gs) (omega arith)
take_more_of {X = X} [] (suc k) j = nothing (suc k + j) ∙ sym (nothing j)
  where
    nothing : (n : ℕ) → take {A = X} n [] ≡ []
    nothing zero = refl
    nothing (suc n) = refl
take_more_of (g ∷ gs) (suc k) j =
    let next : suc k + j ≡ suc (k + j) = omega arith in
    ap (λ n. take n (g ∷ gs)) next ∙ ap (λ l. g ∷ l) (take_more_of gs k j)

run_longer : (olds : List Group) (from middle to : ℕ) → from ≤ middle → middle ≤ to
    → take (to - from) (drop from olds) ≡ take (middle - from) (drop from olds) ++ take (to - middle) (drop middle olds)
run_longer olds from middle to low high =
    let sum : to - from ≡ (middle - from) + (to - middle) = omega (arith, low, high) in
    let at : from + (middle - from) ≡ middle = omega (arith, low) in
    ap (λ n. take n (drop from olds)) sum ∙ take_more_of (drop from olds) (middle - from) (to - middle)
    ∙ ap (λ l. take (middle - from) (drop from olds) ++ take (to - middle) l)
    (drop-drop (middle - from) from olds ∙ ap (λ n. drop n olds) at)

-- The last run is extended.
pub run_extended : (olds : List Group) (rs : List KeptRun) (r s : KeptRun) (from to : ℕ) → AreInside olds (rs ++ r ∷ [])
    → r.to ≡ from → from ≤ to → to ≤ length olds → s.gap ≡ r.gap → s.from ≡ r.from → s.to ≡ to
    → IsRunAdded olds (rs ++ r ∷ []) (rs ++ s ∷ []) 0 from to
run_extended olds rs r s from to all end low high same_gap same_from same_to =
    let parts = inside_before olds rs r all in
    let ordered = parts.1 in
    let sum = gaps_last rs r in
    let sum' = gaps_last rs s in
    record {
      inside = inside_last olds rs s parts.0 (omega (arith, ordered, end, low, same_from, same_to))
          (omega (arith, same_to, high));
      gaps_are = omega (arith, sum, sum', same_gap);
      groups_are = λ fresh e.
          patched_run olds fresh rs s (omega (arith, e, sum, same_gap))
          ∙ ap (λ l. patched olds fresh rs ++ l) (
          ap (λ n. take (n - s.from) (drop s.from olds)) same_to
          ∙ ap (λ n. take (to - n) (drop n olds)) same_from
          ∙ run_longer olds r.from from to (omega (arith, ordered, end)) low
          ∙ ap (λ n. take (n - r.from) (drop r.from olds) ++ take (to - from) (drop from olds)) (sym end)
          )
          ∙ sym (append_assoc (patched olds fresh rs) (run_groups olds r) (take (to - from) (drop from olds)))
          ∙ ap (λ l. l ++ take (to - from) (drop from olds))
          (sym (patched_run olds fresh rs r (omega (arith, e, sum))));
    }

-- The number of nodes in two lists.
pub nodes_append : (gs hs : List Group) → nodes_in (gs ++ hs) ≡ nodes_in gs + nodes_in hs
nodes_append [] hs = omega arith
nodes_append (g ∷ gs) hs = let later = nodes_append gs hs in omega (arith, later)

pub nodes_fit : (gs : List Group) → nodes_in gs ≤ length gs
nodes_fit [] = omega arith
nodes_fit (g ∷ gs) = by (is_node_kind g.what) (nodes_fit gs)
  where
    by : (b : Bool) → nodes_in gs ≤ length gs → (if b then 1 else 0) + nodes_in gs ≤ suc (length gs)
    by true le = omega (arith, le)
    by false le = omega (arith, le)

-- The number of nodes in a run with one more group.
pub nodes_grow : (gs : List Group) (from i nodes : ℕ) → from ≤ i → i < length gs
    → nodes ≡ nodes_in (take (i - from) (drop from gs))
    → nodes + nodes_in (group_at gs i ∷ []) ≡ nodes_in (take ((i + 1) - from) (drop from gs))
nodes_grow gs from i nodes low inside is =
    ap (λ n. n + nodes_in (group_at gs i ∷ [])) is
    ∙ sym (nodes_append (take (i - from) (drop from gs)) (group_at gs i ∷ []))
    ∙ ap nodes_in (sym (run_grows gs from i low inside))

-- A run is added to a list of runs, as a new run or by extending the last run.
pub is_added : (olds : List Group) (old new : List KeptRun) (gap from to : ℕ)
    → new ≡ old ++ record { gap = gap; from = from; to = to } ∷ []
    → AreInside olds old → from ≤ to → to ≤ length olds → IsRunAdded olds old new gap from to
is_added olds old new gap from to e all low high =
    subst (λ l. IsRunAdded olds old l gap from to) (sym e)
    (run_added olds old (record { gap = gap; from = from; to = to }) all low high)

pub is_extended : (olds : List Group) (rs old new : List KeptRun) (r : KeptRun) (gap from to : ℕ) → gap ≡ 0
    → old ≡ rs ++ r ∷ []
    → new ≡ rs ++ record { gap = r.gap; from = r.from; to = to } ∷ [] → r.to ≡ from → AreInside olds old → from ≤ to
    → to ≤ length olds → IsRunAdded olds old new gap from to
is_extended olds rs old new r gap from to none was is end all low high =
    let s : KeptRun = record { gap = r.gap; from = r.from; to = to } in
    subst (λ n. IsRunAdded olds old new n from to) (sym none)
    (subst (λ l. IsRunAdded olds l new 0 from to) (sym was)
    (subst (λ l. IsRunAdded olds (rs ++ r ∷ []) l 0 from to) (sym is)
    (run_extended olds rs r s from to (subst (λ l. AreInside olds l) was all) end low high refl refl refl)))

-- The number of groups in the runs.
abbrev pub kept_length : List Group → List KeptRun → ℕ
kept_length olds [] = 0
kept_length olds (r ∷ rs) = length (run_groups olds r) + kept_length olds rs

pub long_patched : (olds fresh : List Group) (rs : List KeptRun) → gaps rs ≤ length fresh
    → length (patched olds fresh rs) ≡ length fresh + kept_length olds rs
long_patched olds fresh [] le = omega arith
long_patched olds fresh (r ∷ rs) le =
    let rest = length-drop r.gap fresh in
    let later = long_patched olds (drop r.gap fresh) rs (omega (arith, rest, le)) in
    let one = length-append (take r.gap fresh) (run_groups olds r ++ patched olds (drop r.gap fresh) rs) in
    let two = length-append (run_groups olds r) (patched olds (drop r.gap fresh) rs) in
    let first = length-take-le r.gap fresh (omega (arith, le)) in
    omega (arith, rest, later, one, two, first, le)

-- A list that ends with an item.
record Last (gs : List Group) (n : ℕ) : Type 0 where
  front : List Group
  last : Group
  is : gs ≡ front ++ last ∷ []
  long : length front ≡ n

last_of : (gs : List Group) (n : ℕ) → length gs ≡ n + 1 → Last gs n
last_of [] n e = absurd (omega (arith, e))
last_of (x ∷ []) n e = record { front = []; last = x; is = refl; long = omega (arith, e) }
last_of (x ∷ y ∷ gs) zero e = absurd (omega (arith, e))
last_of (x ∷ y ∷ gs) (suc n) e = let later = last_of (y ∷ gs) n (omega (arith, e)) in
    record { front = x ∷ later.front; last = later.last; is = ap (λ l. x ∷ l) later.is; long = ap suc later.long }

before_or_last : {P : Type 0} (i n : ℕ) → i < n + 1 → (i < n → P) → (i ≡ n → P) → P
before_or_last zero zero lt before last = last refl
before_or_last zero (suc n) lt before last = before (omega arith)
before_or_last (suc i) zero lt before last = absurd (omega (arith, lt))
before_or_last (suc i) (suc n) lt before last =
    before_or_last i n (omega (arith, lt)) (λ h. before (omega (arith, h))) (λ e. last (ap suc e))

-- The place of a new group, and of those before it.
record IsPlaced (olds fresh : List Group) (rs : List KeptRun) (p i : ℕ) (g : Group) : Type 0 where
  inside : p < length (patched olds fresh rs)
  is : patched olds (set fresh i g) rs ≡ set (patched olds fresh rs) p g

placed_before : (olds front : List Group) (rs : List KeptRun) (x g : Group) (p i : ℕ) → gaps rs ≤ length front
    → i < length front → IsPlaced olds front rs p i g → IsPlaced olds (front ++ x ∷ []) rs p i g
placed_before olds front rs x g p i le lt old =
    let inside = old.inside in
    let pushed = patched_push olds front rs x le in
    let long : length (patched olds (front ++ x ∷ []) rs) ≡ length (patched olds front rs ++ x ∷ []) =
    ap length pushed in
    let one = length-append (patched olds front rs) (x ∷ []) in
    let same = length-set front i g in
    record {
      inside = omega (arith, inside, long, one);
      is = ap (λ l. patched olds l rs) (set-append_left front (x ∷ []) i g lt)
          ∙ patched_push olds (set front i g) rs x (omega (arith, le, same))
          ∙ ap (λ l. l ++ x ∷ []) old.is
          ∙ sym (set-append_left (patched olds front rs) (x ∷ []) p g inside)
          ∙ ap (λ l. set l p g) (sym pushed);
    }

placed_last : (olds front : List Group) (rs : List KeptRun) (x g : Group) (p i : ℕ) → gaps rs ≤ length front
    → i ≡ length front → p ≡ length (patched olds front rs) → IsPlaced olds (front ++ x ∷ []) rs p i g
placed_last olds front rs x g p i le at place =
    let pushed = patched_push olds front rs x le in
    let long : length (patched olds (front ++ x ∷ []) rs) ≡ length (patched olds front rs ++ x ∷ []) =
    ap length pushed in
    let one = length-append (patched olds front rs) (x ∷ []) in
    record {
      inside = omega (arith, place, long, one);
      is = ap (λ k. patched olds (set (front ++ x ∷ []) k g) rs) at
          ∙ ap (λ l. patched olds l rs) (set-append_seam front x [] g)
          ∙ patched_push olds front rs g le
          ∙ sym (set-append_seam (patched olds front rs) x [] g)
          ∙ ap (λ k. set (patched olds front rs ++ x ∷ []) k g) (sym place)
          ∙ ap (λ l. set l p g) (sym pushed);
    }

-- The places after a new group is appended.
places_push : (olds fresh : List Group) (rs : List KeptRun) (places : List ℕ) (before len nodes : ℕ) (g : Group)
    → IsWritten olds fresh rs places before len nodes
    → ArePlaces olds rs (length (fresh ++ g ∷ [])) (places ++ len ∷ [])
places_push olds fresh rs places before len nodes g w = λ gs i v long lt.
    let more = length-append fresh (g ∷ []) in
    let parts = last_of gs (length fresh) (omega (arith, long, more)) in
    let front : List Group = parts.front in
    let size = parts.long in
    let sum = w.gaps_are in
    let fits = w.fits in
    let enough : gaps rs ≤ length front = omega (arith, sum, fits, size) in
    let known = w.long in
    let placed : IsPlaced olds (front ++ parts.last ∷ []) rs (get_or (places ++ len ∷ []) i 0) i v =
    before_or_last i (length fresh) (omega (arith, long, more, lt))
    (λ h. subst (λ p. IsPlaced olds (front ++ parts.last ∷ []) rs p i v)
    (sym (get_or_append_left places (len ∷ []) 0 i (omega (arith, known, h))))
    (placed_before olds front rs parts.last v (get_or places i 0) i enough (omega (arith, size, h))
    (let old = w.placed front i v size h in record { inside = old.0; is = old.1 })))
    (λ e. let at : i ≡ length places = omega (arith, e, known) in
    placed_last olds front rs parts.last v (get_or (places ++ len ∷ []) i 0) i enough (omega (arith, size, e))
    (ap (λ k. get_or (places ++ len ∷ []) k 0) at
    ∙ get_or-append_seam places len [] 0
    ∙ w.len_is
    ∙ same_length front enough size)) in
    let whole : IsPlaced olds gs rs (get_or (places ++ len ∷ []) i 0) i v =
    subst (λ l. IsPlaced olds l rs (get_or (places ++ len ∷ []) i 0) i v) (sym parts.is) placed in
    (whole.inside, whole.is)
  where
    same_length : (front : List Group) → gaps rs ≤ length front → length front ≡ length fresh
        → length (patched olds fresh rs) ≡ length (patched olds front rs)
    same_length front enough size =
        let sum = w.gaps_are in
        let fits = w.fits in
        let one = long_patched olds fresh rs (omega (arith, sum, fits)) in
        let two = long_patched olds front rs enough in
        omega (arith, one, two, size)

-- The order of places after the greatest is appended.
ordered_push : (places : List ℕ) (kept len : ℕ) → ((i : ℕ) → i < length places → get_or places i 0 < len)
    → length places + kept ≡ len → AreOrdered kept places → AreOrdered kept (places ++ len ∷ [])
ordered_push places kept len below sum o =
    let more = length-append places (len ∷ []) in
    let before : (i : ℕ) → i < length places → get_or (places ++ len ∷ []) i 0 ≡ get_or places i 0 =
    λ i lt. get_or_append_left places (len ∷ []) 0 i lt in
    let last : get_or (places ++ len ∷ []) (length places) 0 ≡ len = get_or-append_seam places len [] 0 in
    let at_end : (i : ℕ) → i ≡ length places → get_or (places ++ len ∷ []) i 0 ≡ len =
    λ i e. ap (λ k. get_or (places ++ len ∷ []) k 0) e ∙ last in
    record {
      ascend = λ i j less lt. before_or_last j (length places) (omega (arith, more, lt))
          (λ h. let one = before i (omega (arith, less, h)) in
          let two = before j h in
          let old = o.ascend i j less h in omega (arith, one, two, old))
          (λ e. let h : i < length places = omega (arith, less, e) in
          let one = before i h in
          let two = at_end j e in
          let old = below i h in omega (arith, one, two, old));
      low = λ i lt. before_or_last i (length places) (omega (arith, more, lt))
          (λ h. let one = before i h in let old = o.low i h in omega (arith, one, old))
          (λ e. let one = at_end i e in omega (arith, one, e, sum));
      high = λ i lt. before_or_last i (length places) (omega (arith, more, lt))
          (λ h. let one = before i h in let old = o.high i h in omega (arith, one, old))
          (λ e. let one = at_end i e in omega (arith, one, e, sum));
    }

-- The order of places holds for a greater bound.
ordered_more : (places : List ℕ) (kept more : ℕ) → kept ≤ more → AreOrdered kept places → AreOrdered more places
ordered_more places kept more le o = record {
  ascend = o.ascend;
  low = o.low;
  high = λ i lt. let old = o.high i lt in omega (arith, old, le);
}

-- A writer after a new group is appended.
pub written_push : (olds fresh fresh' : List Group) (rs : List KeptRun) (places places' : List ℕ)
    (before len len' nodes nodes' : ℕ) (g : Group) → IsWritten olds fresh rs places before len nodes
    → fresh' ≡ fresh ++ g ∷ [] → places' ≡ places ++ len ∷ [] → len' ≡ len + 1
    → nodes' ≡ nodes + nodes_in (g ∷ []) → IsWritten olds fresh' rs places' before len' nodes'
written_push olds fresh fresh' rs places places' before len len' nodes nodes' g w is is_place is_len is_nodes =
    subst (λ l. IsWritten olds l rs places' before len' nodes') (sym is)
    (subst (λ l. IsWritten olds (fresh ++ g ∷ []) rs l before len' nodes') (sym is_place) (
    let sum = w.gaps_are in
    let fits = w.fits in
    let long = w.long in
    let count = w.len_is in
    let some = w.nodes_are in
    let more = length-append fresh (g ∷ []) in
    let places_more = length-append places (len ∷ []) in
    let pushed = patched_push olds fresh rs g (omega (arith, sum, fits)) in
    let longer : length (patched olds (fresh ++ g ∷ []) rs) ≡ length (patched olds fresh rs ++ g ∷ []) =
    ap length pushed in
    let one = length-append (patched olds fresh rs) (g ∷ []) in
    let few = w.fewer in
    let kept : len - length fresh ≡ len' - length (fresh ++ g ∷ []) = omega (arith, is_len, more, few) in
    record {
      inside = w.inside;
      gaps_are = sum;
      fits = omega (arith, fits, more);
      long = omega (arith, long, more, places_more);
      placed = places_push olds fresh rs places before len nodes g w;
      ordered = subst (λ k. AreOrdered k (places ++ len ∷ [])) kept
          (ordered_push places (len - length fresh) len
          (λ i lt. let inside = (w.placed fresh i g refl (omega (arith, long, lt))).0 in omega (arith, inside, count))
          (omega (arith, long, few)) w.ordered);
      fewer = omega (arith, few, is_len, more);
      len_is = omega (arith, is_len, count, longer, one);
      nodes_are = is_nodes ∙ ap (λ n. n + nodes_in (g ∷ [])) some
          ∙ sym (nodes_append (patched olds fresh rs) (g ∷ [])) ∙ ap nodes_in (sym pushed);
    }
    ))

-- A writer after a run is added.
pub written_keep : (olds fresh : List Group) (rs rs' : List KeptRun) (places : List ℕ)
    (before before' len len' nodes nodes' gap from to : ℕ) → IsWritten olds fresh rs places before len nodes
    → before' ≡ length fresh → IsRunAdded olds rs rs' gap from to → gap ≡ before' - before → from ≤ to
    → to ≤ length olds → len' ≡ len + (to - from)
    → nodes' ≡ nodes + nodes_in (take (to - from) (drop from olds))
    → IsWritten olds fresh rs' places before' len' nodes'
written_keep olds fresh rs rs' places before before' len len' nodes nodes' gap from to w all added is low high is_len
    is_nodes =
    let sum = w.gaps_are in
    let fits = w.fits in
    let count = w.len_is in
    let some = w.nodes_are in
    let sum' = added.gaps_are in
    let run : List Group = take (to - from) (drop from olds) in
    let grown = added.groups_are fresh (omega (arith, sum, fits, is, all)) in
    let rest = length-drop from olds in
    let size = length-take-le (to - from) (drop from olds) (omega (arith, rest, low, high)) in
    let longer : length (patched olds fresh rs') ≡ length (patched olds fresh rs ++ run) = ap length grown in
    let one = length-append (patched olds fresh rs) run in
    let few = w.fewer in
    record {
      inside = added.inside;
      gaps_are = omega (arith, sum, fits, is, sum', all);
      fits = omega (arith, all);
      long = w.long;
      ordered = ordered_more places (len - length fresh) (len' - length fresh) (omega (arith, is_len)) w.ordered;
      fewer = omega (arith, few, is_len);
      placed = λ gs i g long lt.
          let old = w.placed gs i g long lt in
          let inside = old.0 in
          let now = added.groups_are gs (omega (arith, sum, fits, is, long, all)) in
          let same = length-set gs i g in
          let now' = added.groups_are (set gs i g) (omega (arith, sum, fits, is, long, same, all)) in
          let both : length (patched olds gs rs') ≡ length (patched olds gs rs ++ run) = ap length now in
          let two = length-append (patched olds gs rs) run in (
            omega (arith, inside, both, two),
            now' ∙ ap (λ l. l ++ run) old.1
                ∙ sym (set-append_left (patched olds gs rs) run (get_or places i 0) g inside)
                ∙ ap (λ l. set l (get_or places i 0) g) (sym now),
          );
      len_is = omega (arith, is_len, count, longer, one, size);
      nodes_are = is_nodes ∙ ap (λ n. n + nodes_in run) some ∙ sym (nodes_append (patched olds fresh rs) run)
          ∙ ap nodes_in (sym grown);
    }

nodes_set : (gs : List Group) (p : ℕ) (reads : List ℕ) → p < length gs
    → nodes_in (set gs p (with_reads (group_at gs p) reads)) ≡ nodes_in gs
nodes_set [] p reads lt = absurd (omega (arith, lt))
nodes_set (g ∷ gs) zero reads lt = refl
nodes_set (g ∷ gs) (suc p) reads lt = let later = nodes_set gs p reads (omega (arith, lt)) in omega (arith, later)

-- The group at the place of a new group.
at_place : (olds fresh : List Group) (rs : List KeptRun) (places : List ℕ) (before len nodes i : ℕ)
    → IsWritten olds fresh rs places before len nodes → i < length fresh
    → group_at (patched olds fresh rs) (get_or places i 0) ≡ group_at fresh i
at_place olds fresh rs places before len nodes i w lt =
    let g : Group = group_at fresh i in
    let placed = w.placed fresh i g refl lt in
    let same : patched olds fresh rs ≡ set (patched olds fresh rs) (get_or places i 0) g =
    sym (ap (λ l. patched olds l rs) (set-get_or fresh i (group_at [] i))) ∙ placed.1 in
    ap (λ l. group_at l (get_or places i 0)) same
    ∙ get_or-set_same (patched olds fresh rs) (get_or places i 0) g (group_at [] i) placed.0

-- The groups after a new group gets other reads.
pub reads_set : (olds fresh fresh' : List Group) (rs : List KeptRun) (places : List ℕ) (before len nodes i place : ℕ)
    (reads : List ℕ) → IsWritten olds fresh rs places before len nodes → i < length fresh → get_or places i 0 ≡ place
    → fresh' ≡ set fresh i (with_reads (group_at fresh i) reads)
    → patched olds fresh' rs
    ≡ set (patched olds fresh rs) place (with_reads (group_at (patched olds fresh rs) place) reads)
reads_set olds fresh fresh' rs places before len nodes i place reads w lt at is =
    let g : Group = with_reads (group_at fresh i) reads in
    ap (λ l. patched olds l rs) is
    ∙ (w.placed fresh i g refl lt).1
    ∙ ap (λ x. set (patched olds fresh rs) (get_or places i 0) (with_reads x reads))
    (sym (at_place olds fresh rs places before len nodes i w lt))
    ∙ ap (λ p. set (patched olds fresh rs) p (with_reads (group_at (patched olds fresh rs) p) reads)) at

-- A writer after a new group gets other reads.
pub written_set : (olds fresh fresh' : List Group) (rs : List KeptRun) (places : List ℕ) (before len nodes i : ℕ)
    (reads : List ℕ) → IsWritten olds fresh rs places before len nodes → i < length fresh
    → fresh' ≡ set fresh i (with_reads (group_at fresh i) reads) → IsWritten olds fresh' rs places before len nodes
written_set olds fresh fresh' rs places before len nodes i reads w lt is =
    let same : length fresh' ≡ length fresh = ap length is ∙ length-set fresh i (with_reads (group_at fresh i) reads) in
    let fits = w.fits in
    let few = w.fewer in
    let p : ℕ = get_or places i 0 in
    let now = reads_set olds fresh fresh' rs places before len nodes i p reads w lt refl is in
    record {
      inside = w.inside;
      gaps_are = w.gaps_are;
      fits = omega (arith, fits, same);
      long = w.long ∙ sym same;
      placed = subst (λ n. ArePlaces olds rs n places) (sym same) w.placed;
      ordered = subst (λ n. AreOrdered (len - n) places) (sym same) w.ordered;
      fewer = omega (arith, few, same);
      len_is = w.len_is ∙ sym (ap length now
          ∙ length-set (patched olds fresh rs) p (with_reads (group_at (patched olds fresh rs) p) reads));
      nodes_are = w.nodes_are ∙ sym (ap nodes_in now
          ∙ nodes_set (patched olds fresh rs) p reads (w.placed fresh i (group_at fresh i) refl lt).0);
    }

-- The groups as contracts see them.
abbrev pub seen : List Group → List Group → ChangedGroups
seen olds news = record { olds = olds; news = news }

-- What the writer's contract sees after a push.
pub changed_push : (olds fresh fresh' : List Group) (rs : List KeptRun) (places : List ℕ) (before len nodes : ℕ)
    (g : Group) (now : ChangedGroups) → seen olds (patched olds fresh rs) ≡ now
    → IsWritten olds fresh rs places before len nodes → fresh' ≡ fresh ++ g ∷ []
    → seen olds (patched olds fresh' rs) ≡ seen now.olds (now.news ++ g ∷ [])
changed_push olds fresh fresh' rs places before len nodes g now view w is =
    let sum = w.gaps_are in
    let fits = w.fits in
    ap (λ l. seen olds l)
    (ap (λ l. patched olds l rs) is ∙ patched_push olds fresh rs g (omega (arith, sum, fits)))
    ∙ ap (λ s. seen s.olds (s.news ++ g ∷ [])) view
