-- New groups at the places of old groups.
use Rattle.std.proofs.Common.{◌≡◌, ◌≤◌, ◌<◌, ℕ, zero, suc, ◌+◌, ◌-◌, List, [], ◌∷◌, ◌++◌, length, length-append, length-drop, length-set, take, drop, get_or, set, refl, ap, ◌∙◌, sym, subst, arith, append_assoc, append-nil}
use Rattle.std.proofs.lemmas.List.{take-append-drop, length-take-le, take_all, drop-drop, get_or_append_left}
use Rattle.std.proofs.Math.Seq.{set-append_seam, get_or-append_seam, take-append_seam, drop-append_seam, take-suc}
use Rattle.rt_groups.specs.declared.groups.Group.{Group}
use Rattle.slot_table.specs.TableGroups.{group_at}
use Rattle.slot_table.specs.declared.runs.KeptRun.{KeptRun}
use Rattle.slot_table.specs.KeptRuns.{run_groups, patched, gaps, AreInside, HaveOwnIndexes, ArePlaces, IsWritten, set_all, KeepDepths}
use Rattle.slot_table.proofs.KeptRuns.{long_patched}

pub long_set_all : (olds : List Group) (ps : List ℕ) (gs : List Group) → length (set_all olds ps gs) ≡ length olds
long_set_all olds [] gs = refl
long_set_all olds (p ∷ ps) [] = refl
long_set_all olds (p ∷ ps) (g ∷ gs) = length-set (set_all olds ps gs) p g ∙ long_set_all olds ps gs

set_all_last : (olds : List Group) (ps : List ℕ) (gs : List Group) (p : ℕ) (g : Group) → length ps ≡ length gs
    → set_all olds (ps ++ p ∷ []) (gs ++ g ∷ []) ≡ set_all (set olds p g) ps gs
set_all_last olds [] [] p g e = refl
set_all_last olds [] (h ∷ gs) p g e = absurd (omega (arith, e))
set_all_last olds (q ∷ ps) [] p g e = absurd (omega (arith, e))
set_all_last olds (q ∷ ps) (h ∷ gs) p g e = ap (λ l. set l q h) (set_all_last olds ps gs p g (omega (arith, e)))

depth_set : (gs : List Group) (p q : ℕ) (g d : Group) → g.depth ≡ (get_or gs p d).depth
    → (get_or (set gs p g) q d).depth ≡ (get_or gs q d).depth
depth_set [] p q g d same = refl
depth_set (x ∷ gs) zero zero g d same = same
depth_set (x ∷ gs) zero (suc q) g d same = refl
depth_set (x ∷ gs) (suc p) zero g d same = refl
depth_set (x ∷ gs) (suc p) (suc q) g d same = depth_set gs p q g d same

-- The last new group is put at its place.
pub record IsOneSet (olds : List Group) (ps ps' : List ℕ) (gs gs' : List Group) (p : ℕ) (g : Group) : Type 0 where
  pub inside : p < length olds
  pub depth : g.depth ≡ (group_at olds p).depth
  pub long : length ps' ≡ length gs'
  pub depths : KeepDepths (set olds p g) ps' gs'
  pub same : set_all (set olds p g) ps' gs' ≡ set_all olds ps gs

pub one_set : (olds : List Group) (ps ps' : List ℕ) (gs gs' : List Group) (p : ℕ) (g : Group) → length ps ≡ length gs
    → KeepDepths olds ps gs → ps ≡ ps' ++ p ∷ [] → gs ≡ gs' ++ g ∷ [] → IsOneSet olds ps ps' gs gs' p g
one_set olds ps ps' gs gs' p g long depths is_ps is_gs =
    let places = length-append ps' (p ∷ []) in
    let groups = length-append gs' (g ∷ []) in
    let size_ps = ap (λ l. length l) is_ps in
    let size_gs = ap (λ l. length l) is_gs in
    let same : length ps' ≡ length gs' = omega (arith, places, groups, size_ps, size_gs, long) in
    let all : KeepDepths olds (ps' ++ p ∷ []) (gs' ++ g ∷ []) =
    subst (λ l. KeepDepths olds l (gs' ++ g ∷ [])) is_ps (subst (λ l. KeepDepths olds ps l) is_gs depths) in
    let last = all (length gs') (omega (arith, groups)) in
    let at : get_or (ps' ++ p ∷ []) (length gs') 0 ≡ p =
    ap (λ k. get_or (ps' ++ p ∷ []) k 0) (sym same) ∙ get_or-append_seam ps' p [] 0 in
    let depth : g.depth ≡ (group_at olds p).depth =
    ap (λ x. x.depth) (sym (get_or-append_seam gs' g [] (group_at [] 0))) ∙ last.1
    ∙ ap (λ k. (group_at olds k).depth) at in
    let first = last.0 in
    record {
      inside = omega (arith, first, at);
      depth = depth;
      long = same;
      depths = λ i lt.
          let here = all i (omega (arith, groups, lt)) in
          let place : get_or (ps' ++ p ∷ []) i 0 ≡ get_or ps' i 0 =
          get_or_append_left ps' (p ∷ []) 0 i (omega (arith, lt, same)) in
          let inside = here.0 in
          let size = length-set olds p g in (
            omega (arith, inside, place, size),
            ap (λ x. x.depth) (sym (get_or_append_left gs' (g ∷ []) (group_at [] 0) i lt)) ∙ here.1
                ∙ ap (λ k. (group_at olds k).depth) place
                ∙ sym (depth_set olds p (get_or ps' i 0) g (group_at [] 0) depth),
          );
      same = sym (
          ap (λ l. set_all olds l gs) is_ps ∙ ap (λ l. set_all olds (ps' ++ p ∷ []) l) is_gs
          ∙ set_all_last olds ps' gs' p g same
          );
    }

-- The old groups that no run has, if each run has its own indexes.
abbrev left_out : List Group → ℕ → List KeptRun → List Group
left_out olds at [] = drop at olds
left_out olds at (r ∷ rs) = take r.gap (drop at olds) ++ left_out olds r.to rs

-- The old groups are those of the runs and the others.
record AreSame (olds others : List Group) (at : ℕ) (rs : List KeptRun) : Type 0 where
  fits : gaps rs ≤ length others
  is : patched olds others rs ≡ drop at olds

rest_of_run : (olds : List Group) (r : KeptRun) → r.from ≤ r.to → run_groups olds r ++ drop r.to olds ≡ drop r.from olds
rest_of_run olds r le =
    let whole : r.from + (r.to - r.from) ≡ r.to = omega (arith, le) in
    ap (λ n. run_groups olds r ++ drop n olds) (sym whole)
    ∙ ap (λ l. run_groups olds r ++ l) (sym (drop-drop (r.to - r.from) r.from olds))
    ∙ take-append-drop (r.to - r.from) (drop r.from olds)

left_out_is : (olds : List Group) (at : ℕ) (rs : List KeptRun) → AreInside olds rs → HaveOwnIndexes at rs
    → AreSame olds (left_out olds at rs) at rs
left_out_is olds at [] inside own = record { fits = omega arith; is = refl }
left_out_is olds at (r ∷ rs) inside own =
    let later = left_out_is olds r.to rs inside.2 own.1 in
    let others : List Group = left_out olds r.to rs in
    let first : List Group = take r.gap (drop at olds) in
    let from = own.0 in
    let low = inside.0 in
    let high = inside.1 in
    let rest = length-drop at olds in
    let size : length first ≡ r.gap = length-take-le r.gap (drop at olds) (omega (arith, rest, from, low, high)) in
    let both = length-append first others in
    let fits = later.fits in
    let front : take r.gap (first ++ others) ≡ first =
    ap (λ n. take n (first ++ others)) (sym size) ∙ take-append_seam first others in
    let back : drop r.gap (first ++ others) ≡ others =
    ap (λ n. drop n (first ++ others)) (sym size) ∙ drop-append_seam first others in
    record {
      fits = omega (arith, size, both, fits);
      is = ap (λ l. l ++ (run_groups olds r ++ patched olds (drop r.gap (first ++ others)) rs)) front
          ∙ ap (λ l. first ++ (run_groups olds r ++ patched olds l rs)) back
          ∙ ap (λ l. first ++ (run_groups olds r ++ l)) later.is
          ∙ ap (λ l. first ++ l) (rest_of_run olds r low)
          ∙ ap (λ n. first ++ drop n olds) from
          ∙ ap (λ l. first ++ l) (sym (drop-drop r.gap at olds))
          ∙ take-append-drop r.gap (drop at olds);
    }

-- A list from an index is the item at that index and the later items.
record IsFirst (p : ℕ) (ps places : List ℕ) (i : ℕ) : Type 0 where
  at : p ≡ get_or places i 0
  rest : ps ≡ drop (suc i) places

first_is : (p : ℕ) (ps places : List ℕ) (i : ℕ) → p ∷ ps ≡ drop i places → IsFirst p ps places i
first_is p ps [] zero e = absurd cc
first_is p ps [] (suc i) e = absurd cc
first_is p ps (x ∷ places) zero e = record { at = cc; rest = cc }
first_is p ps (x ∷ places) (suc i) e = let later = first_is p ps places i e in
    record { at = later.at; rest = later.rest }

-- New groups are put at their places from the last group on.
all_set : (olds others : List Group) (rs : List KeptRun) (places : List ℕ) → ArePlaces olds rs (length others) places
    → (i : ℕ) (ps : List ℕ) (gs : List Group) → ps ≡ drop i places → length ps ≡ length gs
    → i + length gs ≡ length others
    → set_all (patched olds others rs) ps gs ≡ patched olds (take i others ++ gs) rs
all_set olds others rs places placed i [] [] is e long =
    ap (λ l. patched olds l rs) (sym (append-nil (take i others) ∙ take_all i others (omega (arith, long))))
all_set olds others rs places placed i [] (g ∷ gs) is e long = absurd (omega (arith, e))
all_set olds others rs places placed i (p ∷ ps) [] is e long = absurd (omega (arith, e))
all_set olds others rs places placed i (p ∷ ps) (g ∷ gs) is e long =
    let first = first_is p ps places i is in
    let later = all_set olds others rs places placed (suc i) ps gs first.rest (omega (arith, e))
    (omega (arith, long)) in
    let d : Group = group_at [] 0 in
    let y : Group = get_or others i d in
    let before : List Group = take i others in
    let fresh : List Group = take (suc i) others ++ gs in
    let split : fresh ≡ before ++ y ∷ gs =
    ap (λ l. l ++ gs) (take-suc others i d (omega (arith, long))) ∙ append_assoc before (y ∷ []) gs in
    let size : length before ≡ i = length-take-le i others (omega (arith, long)) in
    let more = length-append before (y ∷ gs) in
    let whole : length fresh ≡ length (before ++ y ∷ gs) = ap (λ l. length l) split in
    let put : set fresh i g ≡ before ++ g ∷ gs =
    ap (λ l. set l i g) split ∙ ap (λ k. set (before ++ y ∷ gs) k g) (sym size) ∙ set-append_seam before y gs g in
    ap (λ l. set l p g) later
    ∙ ap (λ k. set (patched olds fresh rs) k g) first.at
    ∙ sym (placed fresh i g (omega (arith, whole, more, size, long)) (omega (arith, long))).1
    ∙ ap (λ l. patched olds l rs) put

-- If each kept group has its own index, the groups of the new frame are the old groups with the new groups at their
-- places.
pub changed_in_place : (olds fresh : List Group) (rs : List KeptRun) (places : List ℕ) (before len nodes : ℕ)
    → IsWritten olds fresh rs places before len nodes → len ≡ length olds → HaveOwnIndexes 0 rs
    → patched olds fresh rs ≡ set_all olds places fresh
changed_in_place olds fresh rs places before len nodes w same own =
    let others : List Group = left_out olds 0 rs in
    let all = left_out_is olds 0 rs w.inside own in
    let sum = w.gaps_are in
    let fits = w.fits in
    let count = w.len_is in
    let long = w.long in
    let one = long_patched olds fresh rs (omega (arith, sum, fits)) in
    let two = long_patched olds others rs all.fits in
    let whole : length (patched olds others rs) ≡ length olds = ap (λ l. length l) all.is in
    let size : length others ≡ length fresh = omega (arith, one, two, whole, count, same) in
    sym (all_set olds others rs places (subst (λ n. ArePlaces olds rs n places) (sym size) w.placed) 0 places fresh refl
    long (omega (arith, size)))
    ∙ ap (λ l. set_all l places fresh) all.is
