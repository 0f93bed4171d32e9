-- The next group of a new frame that shrinks its table.
use Rattle.std.proofs.Common.{◌≡◌, ◌≤◌, ◌<◌, ℕ, zero, suc, ◌+◌, ◌-◌, List, [], ◌∷◌, ◌++◌, length, take, drop, refl, ap, ◌∙◌, sym, arith}
use Rattle.std.proofs.lemmas.List.{drop_more, drop_all}
use Rattle.rt_groups.specs.declared.groups.Group.{Group}
use Rattle.slot_table.specs.TableGroups.{group_at}
use Rattle.slot_table.specs.KeptRuns.{run_groups, patched, gaps}
use Rattle.slot_table.specs.declared.runs.KeptRun.{KeptRun}

-- A run without a gap and without groups adds no groups.
empty_run : (olds fresh : List Group) (r : KeptRun) (rs : List KeptRun) → r.gap ≡ 0 → r.to ≤ r.from
    → patched olds fresh (r ∷ rs) ≡ patched olds fresh rs
empty_run olds fresh r rs no_gap short =
    let none : r.to - r.from ≡ 0 = omega (arith, short) in
    ap (λ n. take n fresh ++ (run_groups olds r ++ patched olds (drop n fresh) rs)) no_gap
    ∙ ap (λ n. take n (drop r.from olds) ++ patched olds fresh rs) none

-- The first group is the first of a run without a gap.
pub kept_first : (olds fresh : List Group) (r : KeptRun) (rs : List KeptRun) → r.gap ≡ 0 → r.from < r.to
    → r.to ≤ length olds
    → patched olds fresh (r ∷ rs)
    ≡ group_at olds r.from ∷ patched olds fresh (record { gap = r.gap; from = r.from + 1; to = r.to } ∷ rs)
kept_first olds fresh r rs no_gap some inside =
    let one : r.to - r.from ≡ suc (r.to - (r.from + 1)) = omega (arith, some) in
    let rest : List Group = patched olds fresh rs in
    ap (λ n. take n fresh ++ (run_groups olds r ++ patched olds (drop n fresh) rs)) no_gap
    ∙ ap (λ n. take n (drop r.from olds) ++ rest) one
    ∙ ap (λ l. take (suc (r.to - (r.from + 1))) l ++ rest)
    (drop_more olds r.from (group_at [] 0) (omega (arith, some, inside)))
    ∙ sym (ap (λ n. group_at olds r.from ∷ (take n fresh ++ (take (r.to - (r.from + 1)) (drop (r.from + 1) olds)
    ++ patched olds (drop n fresh) rs))) no_gap)

-- The first group is the first new group if there is a gap, or if there are no other groups.
pub new_first : (olds fresh : List Group) (at gap : ℕ) (r : KeptRun) (rs : List KeptRun) → at < length fresh
    → gap ≡ r.gap - 1 → (r.gap ≡ 0 → r.to ≤ r.from) → (r.gap ≡ 0 → r.to ≤ r.from → rs ≡ [])
    → patched olds (drop at fresh) (r ∷ rs)
    ≡ group_at fresh at ∷ patched olds (drop (at + 1) fresh) (record { gap = gap; from = r.from; to = r.to } ∷ rs)
new_first olds fresh at gap r rs inside is short last =
    ap (λ l. patched olds l (r ∷ rs)) (drop_more fresh at (group_at [] 0) inside) ∙ by r.gap refl
  where
    left : List Group
    left = drop (at + 1) fresh

    by : (n : ℕ) → r.gap ≡ n → patched olds (group_at fresh at ∷ left) (r ∷ rs)
        ≡ group_at fresh at ∷ patched olds left (record { gap = gap; from = r.from; to = r.to } ∷ rs)
    by zero none =
        let same : gap ≡ 0 = omega (arith, is, none) in
        let low = short none in
        let end = last none low in
        empty_run olds (group_at fresh at ∷ left) r rs none low
        ∙ ap (patched olds (group_at fresh at ∷ left)) end
        ∙ sym (ap (λ l. group_at fresh at ∷ l)
        (empty_run olds left (record { gap = gap; from = r.from; to = r.to }) rs same low
        ∙ ap (patched olds left) end))
    by (suc n) some =
        let same : n ≡ gap = omega (arith, is, some) in
        ap (λ k. take k (group_at fresh at ∷ left)
        ++ (run_groups olds r ++ patched olds (drop k (group_at fresh at ∷ left)) rs)) some
        ∙ ap (λ k. group_at fresh at ∷ (take k left ++ (run_groups olds r ++ patched olds (drop k left) rs))) same

-- There are no groups if there are no new groups and no groups of runs.
pub none_left : (olds fresh : List Group) (at : ℕ) (r : KeptRun) (rs : List KeptRun) → at ≡ length fresh
    → at + gaps (r ∷ rs) ≤ length fresh → (r.gap ≡ 0 → r.to ≤ r.from) → (r.gap ≡ 0 → r.to ≤ r.from → rs ≡ [])
    → patched olds (drop at fresh) (r ∷ rs) ≡ []
none_left olds fresh at r rs end fits short last =
    let none : r.gap ≡ 0 = omega (arith, end, fits) in
    let low = short none in
    empty_run olds (drop at fresh) r rs none low
    ∙ ap (patched olds (drop at fresh)) (last none low)
    ∙ drop_all at fresh (omega (arith, end))
