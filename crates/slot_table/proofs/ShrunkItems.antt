-- A list that keeps only the items of some runs, with new items before, between and after the runs.
use Rattle.std.proofs.Common.{◌≡◌, ◌≤◌, ◌<◌, ℕ, zero, suc, ◌+◌, ◌-◌, List, [], ◌∷◌, ◌++◌, length, length-append, length-drop, length-set, take, drop, drop-cons, get_or, set, refl, ap, ◌∙◌, sym, subst, arith, append_assoc}
use Rattle.std.specs.List.{swap}
use Rattle.std.proofs.lemmas.List.{take-set-le, take_more_set, take_all, length-take-le, drop-set-lt, drop-drop, drop_all}
use Rattle.std.proofs.lemmas.List.Edits.{swap_is}
use Rattle.slot_table.specs.declared.runs.KeptRun.{KeptRun}
use Rattle.slot_table.specs.KeptRuns.{run_groups, patched, gaps, AreInside, MoveDown}
use Rattle.slot_table.proofs.KeptRuns.{take_more_of}

-- A list from an index is an item and the later items.
pub first_of_drop : {X : Type 0} (xs rest : List X) (x : X) (i : ℕ) → drop i xs ≡ x ∷ rest
    → (take (suc i) xs ≡ take i xs ++ x ∷ []) × (drop (suc i) xs ≡ rest) × (get_or xs i x ≡ x)
first_of_drop [] rest x zero e = absurd cc
first_of_drop [] rest x (suc i) e = absurd cc
first_of_drop (y ∷ xs) rest x zero e = (cc, cc, cc)
first_of_drop (y ∷ xs) rest x (suc i) e = let later = first_of_drop xs rest x i e in
    (ap (λ l. y ∷ l) later.0, later.1, later.2)

-- The items put so far: `i` of `count` new items, at index `at` and the indexes after it.
pub record IsPut {X : Type 0} (olds items fresh rest : List X) (at count i : ℕ) : Type 0 where
  pub long : length items ≡ length olds
  pub before : take (at + i) items ≡ take at olds ++ take i fresh
  pub after : drop (at + count) items ≡ drop (at + count) olds
  pub rest_is : rest ≡ drop i fresh

-- One more new item is put.
pub put_more : {X : Type 0} (olds items items' fresh rest rest' : List X) (x : X) (at count i : ℕ)
    → IsPut olds items fresh rest at count i → i < count → at + count ≤ length olds → rest ≡ x ∷ rest'
    → items' ≡ set items (at + i) x → IsPut olds items' fresh rest' at count (i + 1)
put_more olds items items' fresh rest rest' x at count i put more inside is written =
    let long = put.long in
    let first = first_of_drop fresh rest' x i (sym put.rest_is ∙ is) in
    let next : i + 1 ≡ suc i = omega arith in
    let place : at + (i + 1) ≡ (at + i) + 1 = omega arith in
    subst (λ l. IsPut olds l fresh rest' at count (i + 1)) (sym written) (record {
      long = length-set items (at + i) x ∙ long;
      before = ap (λ n. take n (set items (at + i) x)) place
          ∙ take_more_set items (at + i) x (omega (arith, long, more, inside))
          ∙ ap (λ l. l ++ x ∷ []) put.before
          ∙ append_assoc (take at olds) (take i fresh) (x ∷ [])
          ∙ ap (λ l. take at olds ++ l) (sym first.0)
          ∙ ap (λ n. take at olds ++ take n fresh) (sym next);
      after = drop-set-lt (at + count) items (at + i) x (omega (arith, more)) ∙ put.after;
      rest_is = sym first.1 ∙ ap (λ n. drop n fresh) (sym next);
    })

-- An item of a list, with the later items.
record IsItem {X : Type 0} (xs : List X) (i : ℕ) : Type 0 where
  first : X
  is : drop i xs ≡ first ∷ drop (suc i) xs

-- Each index inside a list has an item.
item_at : {X : Type 0} (xs : List X) (i : ℕ) → i < length xs → IsItem xs i
item_at [] i inside = absurd (omega (arith, inside))
item_at (x ∷ xs) zero inside = record { first = x; is = refl }
item_at (x ∷ xs) (suc i) inside = let later = item_at xs i (omega (arith, inside)) in
    record { first = later.first; is = later.is }

-- The items from index `from` to before index `i` are moved down to index `at`.
pub record IsMoved {X : Type 0} (olds items : List X) (at from i : ℕ) : Type 0 where
  pub low : from ≤ i
  pub long : length items ≡ length olds
  pub before : take (at + (i - from)) items ≡ take at olds ++ take (i - from) (drop from olds)
  pub after : drop i items ≡ drop i olds

-- One more item is moved down, by exchanging it with the item at its new index.
pub moved_more : {X : Type 0} (olds items items' : List X) (at from i : ℕ) → IsMoved olds items at from i → at < from
    → i < length olds → items' ≡ swap items (at + (i - from)) i → IsMoved olds items' at from (i + 1)
moved_more olds items items' at from i moved down inside swapped =
    let low = moved.low in
    let long = moved.long in
    let k : ℕ = i - from in
    let w : ℕ = at + k in
    let at_olds = item_at olds i inside in
    let x = at_olds.first in
    let y = get_or items w x in
    let first = first_of_drop items (drop (suc i) olds) x i (moved.after ∙ at_olds.is) in
    let sum : from + k ≡ i = omega (arith, low) in
    let in_run = first_of_drop (drop from olds) (drop (suc i) olds) x k
    (drop-drop k from olds ∙ ap (λ n. drop n olds) sum ∙ at_olds.is) in
    let next : i + 1 ≡ suc i = omega arith in
    let count : (i + 1) - from ≡ suc k = omega (arith, low) in
    let place : at + ((i + 1) - from) ≡ w + 1 = omega (arith, low) in
    let is : items' ≡ set (set items w x) i y = swapped
    ∙ sym (swap_is items w i x (omega (arith, low, long, inside, down)) (omega (arith, long, inside)))
    ∙ ap (λ z. set (set items w z) i y) first.2 in
    subst (λ l. IsMoved olds l at from (i + 1)) (sym is) (record {
      low = omega (arith, low);
      long = length-set (set items w x) i y ∙ length-set items w x ∙ long;
      before = ap (λ n. take n (set (set items w x) i y)) place
          ∙ take-set-le (w + 1) (set items w x) i y (omega (arith, low, down))
          ∙ take_more_set items w x (omega (arith, low, long, inside, down))
          ∙ ap (λ l. l ++ x ∷ []) moved.before
          ∙ append_assoc (take at olds) (take k (drop from olds)) (x ∷ [])
          ∙ ap (λ l. take at olds ++ l) (sym in_run.0)
          ∙ ap (λ n. take at olds ++ take n (drop from olds)) (sym count);
      after = ap (λ n. drop n (set (set items w x) i y)) next
          ∙ drop-set-lt (suc i) (set items w x) i y (omega arith)
          ∙ drop-set-lt (suc i) items w x (omega (arith, low, down))
          ∙ first.1
          ∙ ap (λ n. drop n olds) (sym next);
    })

-- Items that are at their new index already.
pub moved_nowhere : {X : Type 0} (items : List X) (at from count : ℕ) → at ≡ from
    → take (at + count) items ≡ take at items ++ take count (drop from items)
moved_nowhere items at from count same =
    take_more_of items at count ∙ ap (λ n. take at items ++ take count (drop n items)) same

-- Lists that are equal from an index are equal from each later index.
drop_later : {X : Type 0} (xs ys : List X) (a b : ℕ) → a ≤ b → drop a xs ≡ drop a ys → drop b xs ≡ drop b ys
drop_later xs ys a b le same =
    let sum : b ≡ a + (b - a) = omega (arith, le) in
    ap (λ n. drop n xs) sum ∙ sym (drop-drop (b - a) a xs) ∙ ap (λ l. drop (b - a) l) same ∙ drop-drop (b - a) a ys
    ∙ ap (λ n. drop n ys) (sym sum)

-- The items between two runs: the first `at` items are those of the new list, and the items from index `past` on have
-- not changed.
pub record IsSwept {X : Type 0} (olds fresh : List X) (rs : List KeptRun) (items rest : List X) (at : ℕ)
    (left : List KeptRun) : Type 0 where
  pub past : ℕ
  pub low : at ≤ past
  pub high : past ≤ length olds
  pub long : length items ≡ length olds
  pub kept : drop past items ≡ drop past olds
  pub inside : AreInside olds left
  pub gaps_fit : gaps left ≤ length rest
  pub down : MoveDown at past left
  pub same : take at items ++ patched olds rest left ≡ patched olds fresh rs

-- The next run.
pub next_run : {X : Type 0} (olds fresh : List X) (rs : List KeptRun) (items rest : List X) (at i : ℕ) (d : KeptRun)
    → IsSwept olds fresh rs items rest at (drop i rs) → i < length rs
    → IsSwept olds fresh rs items rest at (get_or rs i d ∷ drop (i + 1) rs)
next_run olds fresh rs items rest at i d swept inside =
    let next : suc i ≡ i + 1 = omega arith in
    subst (λ l. IsSwept olds fresh rs items rest at l)
    (drop-cons rs i d inside ∙ ap (λ n. get_or rs i d ∷ drop n rs) next) swept

-- The gap of a run and the items that it keeps are inside the lists, and no kept item moves to a later index.
pub record RunFits {X : Type 0} (items rest : List X) (at : ℕ) (r : KeptRun) : Type 0 where
  pub enough : r.gap ≤ length rest
  pub put : at + r.gap ≤ length items
  pub down : at + r.gap ≤ r.from
  pub order : r.from ≤ r.to
  pub inside : r.to ≤ length items
  pub moved : at + r.gap + (r.to - r.from) ≤ length items

-- The next run fits.
pub run_fits : {X : Type 0} (olds fresh : List X) (rs : List KeptRun) (items rest : List X) (at i : ℕ) (d : KeptRun)
    → IsSwept olds fresh rs items rest at (drop i rs) → i < length rs → RunFits items rest at (get_or rs i d)
run_fits olds fresh rs items rest at i d swept more =
    let next = next_run olds fresh rs items rest at i d swept more in
    let down = next.down.1 in
    let order = next.inside.0 in
    let inside : (get_or rs i d).to ≤ length items =
    subst (λ n. (get_or rs i d).to ≤ n) (sym next.long) next.inside.1 in
    record {
      enough = omega (arith, next.gaps_fit);
      put = omega (arith, down, order, inside);
      down = down;
      order = order;
      inside = inside;
      moved = omega (arith, down, order, inside);
    }

-- After the last run only new items are left to put, and with them the list has its new length and items.
pub record RestFits {X : Type 0} (olds fresh : List X) (rs : List KeptRun) (items rest : List X) (at len : ℕ)
    : Type 0 where
  pub low : at ≤ len
  pub put : at + (len - at) ≤ length items
  pub enough : len - at ≤ length rest
  pub sum : len ≡ at + (len - at)
  pub same : take at items ++ take (len - at) rest ≡ patched olds fresh rs

-- What is left after the last run fits. The new items are those that were given.
pub rest_fits : {X : Type 0} (olds given fresh : List X) (rs : List KeptRun) (items rest : List X) (at i len : ℕ)
    → fresh ≡ given → IsSwept olds fresh rs items rest at (drop i rs) → length rs ≤ i
    → len ≡ length (patched olds given rs) → len ≤ length olds → RestFits olds given rs items rest at len
rest_fits olds given fresh rs items rest at i len is swept all len_is fewer =
    let low = swept.low in
    let high = swept.high in
    let long = swept.long in
    let same : take at items ++ rest ≡ patched olds given rs =
    subst (λ l. take at items ++ patched olds rest l ≡ patched olds fresh rs) (drop_all i rs all) swept.same
    ∙ ap (λ l. patched olds l rs) is in
    let front = length-take-le at items (omega (arith, low, high, long)) in
    let both = len_is ∙ sym (ap length same) ∙ length-append (take at items) rest in
    record {
      low = omega (arith, both, front);
      put = omega (arith, both, front, fewer, long);
      enough = omega (arith, both, front);
      sum = omega (arith, both, front);
      same = ap (λ l. take at items ++ l) (take_all (len - at) rest (omega (arith, both, front))) ∙ same;
    }

-- The new items of a gap are put, and the items of the run after the gap are moved down.
pub swept_more : {X : Type 0} (olds fresh : List X) (rs : List KeptRun) (items items1 items2 rest rest1 : List X)
    (at : ℕ) (r : KeptRun) (left : List KeptRun) → IsSwept olds fresh rs items rest at (r ∷ left)
    → length items1 ≡ length items → take (at + r.gap) items1 ≡ take at items ++ take r.gap rest
    → drop (at + r.gap) items1 ≡ drop (at + r.gap) items → rest1 ≡ drop r.gap rest
    → length items2 ≡ length items1
    → take ((at + r.gap) + (r.to - r.from)) items2
    ≡ take (at + r.gap) items1 ++ take (r.to - r.from) (drop r.from items1)
    → drop r.to items2 ≡ drop r.to items1
    → IsSwept olds fresh rs items2 rest1 (at + r.gap + (r.to - r.from)) left
swept_more {X = X} olds fresh rs items items1 items2 rest rest1 at r left swept long1 before1 after1 is long2 before2
    after2 =
    let low = swept.low in
    let long = swept.long in
    let order = swept.inside.0 in
    let high = swept.inside.1 in
    let later = swept.down.0 in
    let down = swept.down.1 in
    let fits = swept.gaps_fit in
    let more = length-drop r.gap rest in
    let later_olds : List X = patched olds (drop r.gap rest) left in
    let same_run : take (r.to - r.from) (drop r.from items1) ≡ run_groups olds r =
    ap (λ l. take (r.to - r.from) l) (drop_later items1 items (at + r.gap) r.from down after1
    ∙ drop_later items olds swept.past r.from later swept.kept) in
    subst (λ l. IsSwept olds fresh rs items2 l (at + r.gap + (r.to - r.from)) left) (sym is) (record {
      past = r.to;
      low = omega (arith, order, down);
      high = high;
      long = long2 ∙ long1 ∙ long;
      kept = after2
          ∙ drop_later items1 items (at + r.gap) r.to (omega (arith, down, order)) after1
          ∙ drop_later items olds swept.past r.to (omega (arith, later, order)) swept.kept;
      inside = swept.inside.2;
      gaps_fit = omega (arith, fits, more);
      down = swept.down.2;
      same = ap (λ l. l ++ later_olds) before2
          ∙ ap (λ l. (l ++ take (r.to - r.from) (drop r.from items1)) ++ later_olds) before1
          ∙ ap (λ l. ((take at items ++ take r.gap rest) ++ l) ++ later_olds) same_run
          ∙ append_assoc (take at items ++ take r.gap rest) (run_groups olds r) later_olds
          ∙ append_assoc (take at items) (take r.gap rest) (run_groups olds r ++ later_olds)
          ∙ swept.same;
    })
