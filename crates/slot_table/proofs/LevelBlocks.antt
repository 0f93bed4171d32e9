-- Exchanged blocks whose outermost groups have the same depth: groups before the blocks keep their inner groups.
use Rattle.std.proofs.Common.{◌≡◌, ◌≤◌, ◌<◌, ℕ, suc, ◌+◌, ◌-◌, nat_le, Bool, true, false, if◌then◌else◌, List, [], ◌∷◌, ◌++◌, length, length-drop, take, drop, refl, ap, ◌∙◌, sym, arith, inl, inr}
use Rattle.std.proofs.lemmas.List.{length-take-le, take-append-drop, drop-drop, drop-take, get_or-take, get_or-drop}
use Rattle.std.proofs.lemmas.Bool.{le-leb, lt-leb, cases_lt}
use Rattle.rt_groups.specs.declared.groups.Group.{Group}
use Rattle.slot_table.specs.declared.runs.Exchange.{Exchange}
use Rattle.slot_table.specs.TableGroups.{group_at}
use Rattle.slot_table.specs.InnerCounts.{leading_deep, inner_counts}
use Rattle.slot_table.specs.KeptRuns.{HasBlocks, after_exchange}

-- The first group of the block has this depth, and each group of the block has at least this depth.
record IsLevel (depth : ℕ) (gs : List Group) : Type 0 where
  some : 0 < length gs
  first : (group_at gs 0).depth ≡ depth
  deep : (k : ℕ) → k < length gs → depth ≤ (group_at gs k).depth

-- Groups of at least a depth are all among the leading groups of that depth.
deep_block : (k depth : ℕ) (gs more : List Group) → k ≤ depth
    → ((i : ℕ) → i < length gs → depth ≤ (group_at gs i).depth)
    → length (leading_deep k (gs ++ more)) ≡ length gs + length (leading_deep k more)
deep_block k depth [] more le deep = omega arith
deep_block k depth (g ∷ gs) more le deep =
    let first = deep 0 (omega arith) in
    let later = deep_block k depth gs more le (λ i lt. deep (suc i) (omega (arith, lt))) in
    let one : length (leading_deep k (g ∷ (gs ++ more))) ≡ suc (length (leading_deep k (gs ++ more))) =
    ap (λ b. length (if b then g ∷ leading_deep k (gs ++ more) else [])) (le-leb k g.depth (omega (arith, first, le))) in
    omega (arith, later, one)

-- No group is among the leading groups of a depth if the first group does not have the depth.
no_leading : (k depth : ℕ) (gs more : List Group) → depth < k → 0 < length gs → (group_at gs 0).depth ≡ depth
    → length (leading_deep k (gs ++ more)) ≡ 0
no_leading k depth [] more lt some first = absurd (omega (arith, some))
no_leading k depth (g ∷ gs) more lt some first =
    ap (λ b. length (if b then g ∷ leading_deep k (gs ++ more) else [])) (lt-leb k g.depth (omega (arith, first, lt)))

-- Two level blocks have as many leading groups of each depth in the other order.
same_leading : (k depth : ℕ) (gs hs more : List Group) → IsLevel depth gs → IsLevel depth hs
    → length (leading_deep k (gs ++ (hs ++ more))) ≡ length (leading_deep k (hs ++ (gs ++ more)))
same_leading k depth gs hs more one two = elim (cases_lt depth k) [
  | inl lt ↦ no_leading k depth gs (hs ++ more) lt one.some one.first
      ∙ sym (no_leading k depth hs (gs ++ more) lt two.some two.first)
  | inr le ↦
      let a = deep_block k depth gs (hs ++ more) le one.deep in
      let b = deep_block k depth hs more le two.deep in
      let c = deep_block k depth hs (gs ++ more) le two.deep in
      let d = deep_block k depth gs more le one.deep in
      omega (arith, a, b, c, d)
]

-- Lists with as many leading groups of each depth also have as many after the same groups.
same_leading_after : (k : ℕ) (gs xs ys : List Group)
    → ((n : ℕ) → length (leading_deep n xs) ≡ length (leading_deep n ys))
    → length (leading_deep k (gs ++ xs)) ≡ length (leading_deep k (gs ++ ys))
same_leading_after k [] xs ys same = same k
same_leading_after k (g ∷ gs) xs ys same = by (nat_le k g.depth) (same_leading_after k gs xs ys same)
  where
    by : (b : Bool) → length (leading_deep k (gs ++ xs)) ≡ length (leading_deep k (gs ++ ys))
        → length (if b then g ∷ leading_deep k (gs ++ xs) else [])
        ≡ length (if b then g ∷ leading_deep k (gs ++ ys) else [])
    by true e = ap suc e
    by false e = refl

-- The counts of groups before lists with as many leading groups of each depth.
same_counts_before : (gs xs ys : List Group) → ((n : ℕ) → length (leading_deep n xs) ≡ length (leading_deep n ys))
    → take (length gs) (inner_counts (gs ++ xs)) ≡ take (length gs) (inner_counts (gs ++ ys))
same_counts_before [] xs ys same = refl
same_counts_before (g ∷ gs) xs ys same =
    ap (λ n. n ∷ take (length gs) (inner_counts (gs ++ xs))) (same_leading_after (g.depth + 1) gs xs ys same)
    ∙ ap (λ l. length (leading_deep (g.depth + 1) (gs ++ ys)) ∷ l) (same_counts_before gs xs ys same)

-- The items from an index are those before a later index and the others.
rest_is : {X : Type 0} (xs : List X) (from to : ℕ) → from ≤ to → drop from (take to xs) ++ drop to xs ≡ drop from xs
rest_is xs from to le =
    let end : from + (to - from) ≡ to = omega (arith, le) in
    ap (λ n. drop from (take n xs) ++ drop n xs) (sym end)
    ∙ ap (λ l. l ++ drop (from + (to - from)) xs) (drop-take from (to - from) xs)
    ∙ ap (λ l. take (to - from) (drop from xs) ++ l) (sym (drop-drop (to - from) from xs))
    ∙ take-append-drop (to - from) (drop from xs)

-- The groups from index `from` to before index `to` are level.
level_block : (gs : List Group) (depth from to : ℕ) → from < to → to ≤ length gs → (group_at gs from).depth ≡ depth
    → ((k : ℕ) → from ≤ k → k < to → depth ≤ (group_at gs k).depth) → IsLevel depth (drop from (take to gs))
level_block gs depth from to lt inside first deep =
    let whole = length-take-le to gs inside in
    let rest = length-drop from (take to gs) in
    let at : (k : ℕ) → from + k < to → group_at (drop from (take to gs)) k ≡ group_at gs (from + k) =
    λ k less. get_or-drop from (take to gs) k (group_at [] 0) ∙ get_or-take to gs (from + k) (group_at [] 0) less in
    let same : from + 0 ≡ from = omega arith in
    record {
      some = omega (arith, whole, rest, lt);
      first = ap (λ g. g.depth) (at 0 (omega (arith, lt))) ∙ ap (λ n. (group_at gs n).depth) same ∙ first;
      deep = λ k less.
          let is = ap (λ g. g.depth) (at k (omega (arith, less, whole, rest))) in
          let low = deep (from + k) (omega arith) (omega (arith, less, whole, rest)) in
          omega (arith, is, low);
    }

-- The counts of groups before both blocks stay if the blocks are level.
pub level_counts : (gs : List Group) (e : Exchange) (depth : ℕ) → HasBlocks gs e → (group_at gs e.from).depth ≡ depth
    → (group_at gs e.middle).depth ≡ depth
    → ((k : ℕ) → e.from ≤ k → k < e.to → depth ≤ (group_at gs k).depth)
    → take e.from (inner_counts gs) ≡ take e.from (inner_counts (after_exchange e gs))
level_counts gs e depth blocks first second deep =
    let low = blocks.low in
    let high = blocks.high in
    let inside = blocks.inside in
    let before : List Group = take e.from gs in
    let one : List Group = drop e.from (take e.middle gs) in
    let two : List Group = drop e.middle (take e.to gs) in
    let more : List Group = drop e.to gs in
    let long = length-take-le e.from gs (omega (arith, low, high, inside)) in
    let split : gs ≡ before ++ (one ++ (two ++ more)) =
    sym (ap (λ l. before ++ (one ++ l)) (rest_is gs e.middle e.to (omega (arith, high)))
    ∙ ap (λ l. before ++ l) (rest_is gs e.from e.middle (omega (arith, low)))
    ∙ take-append-drop e.from gs) in
    let level_one = level_block gs depth e.from e.middle low (omega (arith, high, inside)) first
    (λ k le lt. deep k le (omega (arith, lt, high))) in
    let level_two = level_block gs depth e.middle e.to high inside second
    (λ k le lt. deep k (omega (arith, le, low)) lt) in
    ap (λ l. take e.from (inner_counts l)) split
    ∙ ap (λ n. take n (inner_counts (before ++ (one ++ (two ++ more))))) (sym long)
    ∙ same_counts_before before (one ++ (two ++ more)) (two ++ (one ++ more))
    (λ k. same_leading k depth one two more level_one level_two)
    ∙ ap (λ n. take n (inner_counts (before ++ (two ++ (one ++ more))))) long

-- One more group has at least this depth.
pub deep_more : (gs : List Group) (depth from i d : ℕ)
    → ((k : ℕ) → from ≤ k → k < i → depth ≤ (group_at gs k).depth) → d ≡ (group_at gs i).depth → depth ≤ d → (k : ℕ)
    → from ≤ k → k < i + 1 → depth ≤ (group_at gs k).depth
deep_more gs depth from i d deep is le k low lt = elim (cases_lt k i) [
  | inl before ↦ deep k low before
  | inr after ↦
      let same : k ≡ i = omega (arith, after, lt) in
      let at = ap (λ n. (group_at gs n).depth) same in
      omega (arith, at, is, le)
]
