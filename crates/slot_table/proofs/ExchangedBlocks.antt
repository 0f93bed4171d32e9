-- Lists in which two blocks that follow each other are exchanged.
use Rattle.std.proofs.Common.{◌≡◌, ◌≤◌, ◌<◌, ℕ, zero, suc, ◌+◌, ◌-◌, List, [], ◌∷◌, ◌++◌, length, length-append, length-drop, map, take, drop, get_or, set, refl, ap, ◌∙◌, sym, subst, arith, append_assoc}
use Rattle.std.proofs.lemmas.List.{length-take-le, take-take, take-append-le, take-append-drop, drop-drop, drop-take, map-append, take-set-le, drop-set-add, set-append_right, length-map}
use Rattle.std.proofs.lemmas.Slice.{drop-append-drop}
use Rattle.std.proofs.Math.Seq.{take-append_seam, drop-append_seam}
use Rattle.rt_groups.specs.declared.groups.Group.{Group}
use Rattle.gap_buffer.specs.Buffer.{exchanged_list}
use Rattle.slot_table.specs.declared.runs.KeptRun.{KeptRun}
use Rattle.slot_table.specs.declared.runs.Exchange.{Exchange}
use Rattle.slot_table.specs.declared.storage.GroupHead.{GroupHead}
use Rattle.slot_table.specs.SharedSlots.{GroupSlots}
use Rattle.slot_table.specs.TableGroups.{is_node_kind}
use Rattle.slot_table.specs.ChangeLists.{nodes_in}
use Rattle.slot_table.specs.Storage.{joined_groups, AreParts}
use Rattle.slot_table.specs.InnerCounts.{inner_counts, bare_groups}
use Rattle.slot_table.specs.KeptRuns.{run_groups, patched, gaps, AreInside, HaveOwnIndexes, IsWritten, set_all, HasBlocks, AreExchanged, AreOutside, after_exchange}
use Rattle.slot_table.proofs.ChangesInPlace.{long_set_all, changed_in_place}
use Rattle.slot_table.proofs.InnerCounts.{length_counts, drop_counts}
use Rattle.slot_table.proofs.JoinedGroups.{same_parts, heads_long}
use Rattle.slot_table.proofs.ShrunkParts.{same_take, same_drop, same_inside, joined_append, joined_take, joined_drop, map_take, map_drop, counts_bare}

-- The items before the later part of the list.
abbrev front_of : {X : Type 0} → ℕ → ℕ → ℕ → List X → List X
front_of f m t xs = (take f xs ++ drop m (take t xs)) ++ drop f (take m xs)

as_front : {X : Type 0} (xs : List X) (f m t : ℕ) → exchanged_list f m t xs ≡ front_of f m t xs ++ drop t xs
as_front xs f m t =
    sym (append_assoc (take f xs) (drop m (take t xs)) (drop f (take m xs) ++ drop t xs))
    ∙ sym (append_assoc (take f xs ++ drop m (take t xs)) (drop f (take m xs)) (drop t xs))

long_front : {X : Type 0} (xs : List X) (f m t : ℕ) → f ≤ m → m ≤ t → t ≤ length xs
    → length (front_of f m t xs) ≡ t
long_front xs f m t low high inside =
    let one = length-append (take f xs ++ drop m (take t xs)) (drop f (take m xs)) in
    let two = length-append (take f xs) (drop m (take t xs)) in
    let first = length-take-le f xs (omega (arith, low, high, inside)) in
    let upper = length-drop m (take t xs) in
    let whole = length-take-le t xs inside in
    let lower = length-drop f (take m xs) in
    let half = length-take-le m xs (omega (arith, high, inside)) in
    omega (arith, one, two, first, upper, whole, lower, half, low, high)

pub long_exchanged : {X : Type 0} (xs : List X) (f m t : ℕ) → f ≤ m → m ≤ t → t ≤ length xs
    → length (exchanged_list f m t xs) ≡ length xs
long_exchanged xs f m t low high inside =
    let front = long_front xs f m t low high inside in
    let is = ap (λ l. length l) (as_front xs f m t) in
    let both = length-append (front_of f m t xs) (drop t xs) in
    let rest = length-drop t xs in
    omega (arith, front, is, both, rest, inside)

-- The items before both blocks stay.
take_before : {X : Type 0} (xs : List X) (f m t n : ℕ) → n ≤ f → f ≤ length xs
    → take n (exchanged_list f m t xs) ≡ take n xs
take_before xs f m t n low inside =
    let first = length-take-le f xs inside in
    take-append-le n (take f xs) (drop m (take t xs) ++ (drop f (take m xs) ++ drop t xs)) (omega (arith, first, low))
    ∙ take-take n f xs low

-- The items after both blocks stay.
drop_after : {X : Type 0} (xs : List X) (f m t n : ℕ) → f ≤ m → m ≤ t → t ≤ length xs → t ≤ n
    → drop n (exchanged_list f m t xs) ≡ drop n xs
drop_after xs f m t n low high inside later =
    ap (λ l. drop n l) (as_front xs f m t)
    ∙ drop-append-drop t xs (front_of f m t xs) n later (long_front xs f m t low high inside)

-- The two blocks come in the other order.
both_blocks : {X : Type 0} (xs : List X) (f m t : ℕ) → f ≤ m → m ≤ t → t ≤ length xs
    → take (t - f) (drop f (exchanged_list f m t xs)) ≡ drop m (take t xs) ++ drop f (take m xs)
both_blocks {X = X} xs f m t low high inside =
    let both : List X = drop m (take t xs) ++ drop f (take m xs) in
    let first = length-take-le f xs (omega (arith, low, high, inside)) in
    let two = length-append (drop m (take t xs)) (drop f (take m xs)) in
    let upper = length-drop m (take t xs) in
    let whole = length-take-le t xs inside in
    let lower = length-drop f (take m xs) in
    let half = length-take-le m xs (omega (arith, high, inside)) in
    let long : t - f ≡ length both = omega (arith, two, upper, whole, lower, half, low, high) in
    ap (λ n. take (t - f) (drop n (exchanged_list f m t xs))) (sym first)
    ∙ ap (λ l. take (t - f) l)
    (drop-append_seam (take f xs) (drop m (take t xs) ++ (drop f (take m xs) ++ drop t xs)))
    ∙ ap (λ l. take (t - f) l) (sym (append_assoc (drop m (take t xs)) (drop f (take m xs)) (drop t xs)))
    ∙ ap (λ n. take n (both ++ drop t xs)) long
    ∙ take-append_seam both (drop t xs)

-- The items of a run.
run_is : {X : Type 0} (xs : List X) (from to : ℕ) → from ≤ to → take (to - from) (drop from xs) ≡ drop from (take to xs)
run_is xs from to low =
    let end : from + (to - from) ≡ to = omega (arith, low) in
    sym (drop-take from (to - from) xs) ∙ ap (λ n. drop from (take n xs)) end

-- A run before both blocks stays.
run_before : {X : Type 0} (xs : List X) (f m t : ℕ) (r : KeptRun) → r.from ≤ r.to → r.to ≤ f → f ≤ length xs
    → run_groups xs r ≡ run_groups (exchanged_list f m t xs) r
run_before xs f m t r order low inside =
    run_is xs r.from r.to order
    ∙ ap (λ l. drop r.from l) (sym (take_before xs f m t r.to low inside))
    ∙ sym (run_is (exchanged_list f m t xs) r.from r.to order)

-- Runs after both blocks stay.
patched_after : {X : Type 0} (xs fresh : List X) (f m t at : ℕ) (rs : List KeptRun) → f ≤ m → m ≤ t → t ≤ length xs
    → t ≤ at → AreInside xs rs → HaveOwnIndexes at rs
    → patched xs fresh rs ≡ patched (exchanged_list f m t xs) fresh rs
patched_after xs fresh f m t at [] low high inside later all own = refl
patched_after {X = X} xs fresh f m t at (r ∷ rs) low high inside later all own =
    let from = own.0 in
    let order = all.0 in
    let ys : List X = exchanged_list f m t xs in
    let run : run_groups xs r ≡ run_groups ys r =
    ap (λ l. take (r.to - r.from) l)
    (sym (drop_after xs f m t r.from low high inside (omega (arith, from, later)))) in
    ap (λ l. take r.gap fresh ++ (l ++ patched xs (drop r.gap fresh) rs)) run
    ∙ ap (λ l. take r.gap fresh ++ (run_groups ys r ++ l))
    (patched_after xs (drop r.gap fresh) f m t r.to rs low high inside (omega (arith, from, order, later)) all.2 own.1)

-- The run of both blocks in the new frame, and the runs of the blocks in the table.
abbrev both_run : ℕ → Exchange → KeptRun
both_run gap e = record { gap = gap; from = e.from; to = e.to }

abbrev second_run : ℕ → Exchange → KeptRun
second_run gap e = record { gap = gap; from = e.middle; to = e.to }

abbrev first_run : Exchange → KeptRun
first_run e = record { gap = 0; from = e.from; to = e.middle }

-- Runs with their own indexes before a run are before its groups.
runs_before : {X : Type 0} (xs : List X) (first others later : List KeptRun) (r : KeptRun) (at : ℕ)
    → AreInside xs (first ++ others) → HaveOwnIndexes at (first ++ r ∷ later) → at ≤ r.from
runs_before xs [] others later r at all own = let from = own.0 in omega (arith, from)
runs_before xs (x ∷ first) others later r at all own =
    let from = own.0 in
    let order = all.0 in
    let rest = runs_before xs first others later r x.to all.2 own.1 in
    omega (arith, from, order, rest)

-- The blocks of runs that are inside a list.
blocks_of : {X : Type 0} (xs : List X) (first later : List KeptRun) (gap : ℕ) (e : Exchange) → e.from < e.middle
    → e.middle < e.to → AreInside xs (first ++ second_run gap e ∷ first_run e ∷ later) → HasBlocks xs e
blocks_of xs [] later gap e low high all = record { low = low; high = high; inside = all.1 }
blocks_of xs (r ∷ first) later gap e low high all = blocks_of xs first later gap e low high all.2

-- The groups of the new frame are those of one run of both blocks, after the blocks are exchanged.
patched_exchanged : {X : Type 0} (xs fresh : List X) (first later : List KeptRun) (gap at : ℕ) (e : Exchange)
    → HasBlocks xs e → AreInside xs (first ++ second_run gap e ∷ first_run e ∷ later)
    → HaveOwnIndexes at (first ++ both_run gap e ∷ later)
    → patched xs fresh (first ++ second_run gap e ∷ first_run e ∷ later)
    ≡ patched (after_exchange e xs) fresh (first ++ both_run gap e ∷ later)
patched_exchanged {X = X} xs fresh [] later gap at e blocks all own =
    let lower = blocks.low in
    let upper = blocks.high in
    let inside = blocks.inside in
    let low : e.from ≤ e.middle = omega (arith, lower) in
    let high : e.middle ≤ e.to = omega (arith, upper) in
    let ys : List X = after_exchange e xs in
    let rest : List X = drop gap fresh in
    let one : List X = run_groups xs (second_run gap e) in
    let two : List X = run_groups xs (first_run e) in
    let both : one ++ two ≡ run_groups ys (both_run gap e) =
    ap (λ l. l ++ two) (run_is xs e.middle e.to high)
    ∙ ap (λ l. drop e.middle (take e.to xs) ++ l) (run_is xs e.from e.middle low)
    ∙ sym (both_blocks xs e.from e.middle e.to low high inside) in
    ap (λ l. take gap fresh ++ l) (
    sym (append_assoc one two (patched xs rest later))
    ∙ ap (λ l. l ++ patched xs rest later) both
    ∙ ap (λ l. run_groups ys (both_run gap e) ++ l)
    (patched_after xs rest e.from e.middle e.to e.to later low high inside (omega arith) all.2.2 own.1)
    )
patched_exchanged {X = X} xs fresh (r ∷ first) later gap at e blocks all own =
    let low = blocks.low in
    let high = blocks.high in
    let inside = blocks.inside in
    let ys : List X = after_exchange e xs in
    let rest : List X = drop r.gap fresh in
    let ends = runs_before xs first (second_run gap e ∷ first_run e ∷ later) later (both_run gap e) r.to all.2 own.1 in
    ap (λ l. take r.gap fresh ++ (l ++ patched xs rest (first ++ second_run gap e ∷ first_run e ∷ later)))
    (run_before xs e.from e.middle e.to r all.0 ends (omega (arith, low, high, inside)))
    ∙ ap (λ l. take r.gap fresh ++ (run_groups ys r ++ l))
    (patched_exchanged xs rest first later gap r.to e blocks all.2 own.1)

gaps_exchanged : (first later : List KeptRun) (gap : ℕ) (e : Exchange)
    → gaps (first ++ second_run gap e ∷ first_run e ∷ later) ≡ gaps (first ++ both_run gap e ∷ later)
gaps_exchanged [] later gap e = omega arith
gaps_exchanged (r ∷ first) later gap e = let rest = gaps_exchanged first later gap e in omega (arith, rest)

inside_exchanged : {X : Type 0} (xs ys : List X) (first later : List KeptRun) (gap : ℕ) (e : Exchange)
    → length xs ≡ length ys → AreInside xs (first ++ second_run gap e ∷ first_run e ∷ later)
    → AreInside ys (first ++ both_run gap e ∷ later)
inside_exchanged xs ys [] later gap e same all =
    let high = all.0 in
    let inside = all.1 in
    let low = all.2.0 in
    (omega (arith, low, high), omega (arith, inside, same), same_inside xs ys later same all.2.2)
inside_exchanged xs ys (r ∷ first) later gap e same all =
    let inside = all.1 in
    (all.0, omega (arith, inside, same), inside_exchanged xs ys first later gap e same all.2)

-- A writer has the same groups if the blocks are exchanged in the table.
written_exchanged : (olds fresh : List Group) (first later : List KeptRun) (gap : ℕ) (places : List ℕ)
    (before len nodes : ℕ) (e : Exchange) → HasBlocks olds e
    → IsWritten olds fresh (first ++ second_run gap e ∷ first_run e ∷ later) places before len nodes
    → HaveOwnIndexes 0 (first ++ both_run gap e ∷ later)
    → IsWritten (after_exchange e olds) fresh (first ++ both_run gap e ∷ later) places before len nodes
written_exchanged olds fresh first later gap places before len nodes e blocks w own =
    let low = blocks.low in
    let high = blocks.high in
    let long = long_exchanged olds e.from e.middle e.to (omega (arith, low)) (omega (arith, high)) blocks.inside in
    let same = λ (gs : List Group). patched_exchanged olds gs first later gap 0 e blocks w.inside own in
    record {
      inside = inside_exchanged olds (after_exchange e olds) first later gap e (sym long) w.inside;
      gaps_are = w.gaps_are ∙ gaps_exchanged first later gap e;
      fits = w.fits;
      long = w.long;
      ordered = w.ordered;
      fewer = w.fewer;
      placed = λ gs i g size lt.
          let old = w.placed gs i g size lt in (
            subst (λ l. get_or places i 0 < length l) (same gs) old.0,
            sym (same (set gs i g)) ∙ old.1 ∙ ap (λ l. set l (get_or places i 0) g) (same gs),
          );
      len_is = w.len_is ∙ ap (λ l. length l) (same fresh);
      nodes_are = w.nodes_are ∙ ap (λ l. nodes_in l) (same fresh);
    }

-- An item after both blocks is replaced.
set_later : {X : Type 0} (xs : List X) (m t p : ℕ) (g : X) → m ≤ t → t ≤ length xs → t ≤ p
    → set (exchanged_list 0 m t xs) p g ≡ exchanged_list 0 m t (set xs p g)
set_later {X = X} xs m t p g high inside later =
    let front : List X = drop m (take t xs) ++ take m xs in
    let two = length-append (drop m (take t xs)) (take m xs) in
    let upper = length-drop m (take t xs) in
    let whole = length-take-le t xs inside in
    let half = length-take-le m xs (omega (arith, high, inside)) in
    let long : length front ≡ t = omega (arith, two, upper, whole, half, high) in
    let sum : t + (p - t) ≡ p = omega (arith, later) in
    let rest : List X = drop t (set xs p g) in
    ap (λ l. set l p g) (sym (append_assoc (drop m (take t xs)) (take m xs) (drop t xs)))
    ∙ set-append_right front (drop t xs) t p g long later
    ∙ ap (λ l. front ++ l) (sym (drop-set-add t xs (p - t) g) ∙ ap (λ n. drop t (set xs n g)) sum)
    ∙ append_assoc (drop m (take t xs)) (take m xs) rest
    ∙ ap (λ l. drop m l ++ (take m xs ++ rest)) (sym (take-set-le t xs p g later))
    ∙ ap (λ l. drop m (take t (set xs p g)) ++ (l ++ rest))
    (sym (take-set-le m xs p g (omega (arith, high, later))))

-- An item outside both blocks is replaced.
set_outside : {X : Type 0} (xs : List X) (f m t p : ℕ) (g : X) → f ≤ m → m ≤ t → t ≤ length xs → (f ≤ p → t ≤ p)
    → set (exchanged_list f m t xs) p g ≡ exchanged_list f m t (set xs p g)
set_outside xs zero m t p g low high inside out = set_later xs m t p g high inside (out (omega arith))
set_outside xs (suc f) zero t p g low high inside out = absurd (omega (arith, low))
set_outside xs (suc f) (suc m) zero p g low high inside out = absurd (omega (arith, high))
set_outside [] (suc f) (suc m) (suc t) p g low high inside out = absurd (omega (arith, inside))
set_outside (x ∷ xs) (suc f) (suc m) (suc t) zero g low high inside out = refl
set_outside (x ∷ xs) (suc f) (suc m) (suc t) (suc p) g low high inside out =
    ap (λ l. x ∷ l) (set_outside xs f m t p g (omega (arith, low)) (omega (arith, high)) (omega (arith, inside))
    (λ le. let after = out (omega (arith, le)) in omega (arith, after)))

-- New groups outside both blocks are put at their places.
set_all_outside : (olds : List Group) (e : Exchange) (ps : List ℕ) (gs : List Group) → HasBlocks olds e
    → AreOutside e ps → set_all (after_exchange e olds) ps gs ≡ after_exchange e (set_all olds ps gs)
set_all_outside olds e [] gs blocks out = refl
set_all_outside olds e (p ∷ ps) [] blocks out = refl
set_all_outside olds e (p ∷ ps) (g ∷ gs) blocks out =
    let low = blocks.low in
    let high = blocks.high in
    let inside = blocks.inside in
    let long = long_set_all olds ps gs in
    ap (λ l. set l p g) (set_all_outside olds e ps gs blocks out.1)
    ∙ set_outside (set_all olds ps gs) e.from e.middle e.to p g (omega (arith, low)) (omega (arith, high))
    (omega (arith, inside, long)) out.0

-- If two runs exchange their blocks, and each other kept group has its own index, the groups of the new frame are the
-- old groups with the new groups at their places and with the blocks exchanged.
pub record IsExchangedInPlace (olds fresh : List Group) (rs : List KeptRun) (places : List ℕ) (e : Exchange)
    : Type 0 where
  pub both : HasBlocks olds e
  pub is : patched olds fresh rs ≡ after_exchange e (set_all olds places fresh)

pub exchanged_in_place : (olds fresh : List Group) (rs : List KeptRun) (places : List ℕ) (before len nodes : ℕ)
    (e : Exchange) → IsWritten olds fresh rs places before len nodes → len ≡ length olds → AreExchanged 0 rs e
    → AreOutside e places → IsExchangedInPlace olds fresh rs places e
exchanged_in_place olds fresh rs places before len nodes e w same x out =
    let first = x.first in
    let later = x.later in
    let gap = x.gap in
    let written : IsWritten olds fresh (first ++ second_run gap e ∷ first_run e ∷ later) places before len nodes =
    subst (λ l. IsWritten olds fresh l places before len nodes) x.runs_are w in
    let low = x.low in
    let high = x.high in
    let blocks = blocks_of olds first later gap e low high written.inside in
    let long = long_exchanged olds e.from e.middle e.to (omega (arith, low)) (omega (arith, high)) blocks.inside in
    record {
      both = blocks;
      is = ap (λ l. patched olds fresh l) x.runs_are
          ∙ patched_exchanged olds fresh first later gap 0 e blocks written.inside x.own
          ∙ changed_in_place (after_exchange e olds) fresh (first ++ both_run gap e ∷ later) places before len nodes
          (written_exchanged olds fresh first later gap places before len nodes e blocks written x.own)
          (same ∙ sym long) x.own
          ∙ set_all_outside olds e places fresh blocks out;
    }

-- The blocks are inside each list of the same length.
pub same_blocks : {X Y : Type 0} (xs : List X) (ys : List Y) (e : Exchange) → length xs ≡ length ys → HasBlocks xs e
    → HasBlocks ys e
same_blocks xs ys e same blocks =
    let inside = blocks.inside in
    record { low = blocks.low; high = blocks.high; inside = omega (arith, inside, same) }

-- A run and the next run exchange their blocks.
pub next_exchanged : (at : ℕ) (run next : KeptRun) (later others : List KeptRun) → later ≡ next ∷ others
    → next.gap ≡ 0 → next.to ≡ run.from → next.from ≡ at + run.gap → next.from < next.to → run.from < run.to
    → HaveOwnIndexes run.to others
    → AreExchanged at (run ∷ later) (record { from = next.from; middle = run.from; to = run.to })
next_exchanged at run next later others is none end from low high own = record {
  first = [];
  gap = run.gap;
  later = others;
  runs_are = ap (λ l. run ∷ l) is
      ∙ ap (λ n. run ∷ record { gap = n; from = next.from; to = next.to } ∷ others) none
      ∙ ap (λ n. run ∷ record { gap = 0; from = next.from; to = n } ∷ others) end;
  own = (from, own);
  low = omega (arith, low, end);
  high = high;
}

-- A run with its own indexes is before runs of which two exchange their blocks.
pub run_and_more : (r : KeptRun) (rs : List KeptRun) (at : ℕ) (e : Exchange) → r.from ≡ at + r.gap
    → AreExchanged r.to rs e → AreExchanged at (r ∷ rs) e
run_and_more r rs at e from x = record {
  first = r ∷ x.first;
  gap = x.gap;
  later = x.later;
  runs_are = ap (λ l. r ∷ l) x.runs_are;
  own = (from, x.own);
  low = x.low;
  high = x.high;
}

-- A function of each item.
map_exchanged : {X Y : Type 0} (f : X → Y) (xs : List X) (e : Exchange)
    → map f (after_exchange e xs) ≡ after_exchange e (map f xs)
map_exchanged {X = X} f xs e =
    let upper : List X = drop e.middle (take e.to xs) in
    let lower : List X = drop e.from (take e.middle xs) in
    let rest : List X = drop e.to xs in
    map-append f (take e.from xs) (upper ++ (lower ++ rest))
    ∙ ap (λ l. l ++ map f (upper ++ (lower ++ rest))) (map_take f e.from xs)
    ∙ ap (λ l. take e.from (map f xs) ++ l) (
    map-append f upper (lower ++ rest)
    ∙ ap (λ l. l ++ map f (lower ++ rest)) (map_drop f e.middle (take e.to xs)
    ∙ ap (λ l. drop e.middle l) (map_take f e.to xs))
    ∙ ap (λ l. drop e.middle (take e.to (map f xs)) ++ l) (
    map-append f lower rest
    ∙ ap (λ l. l ++ map f rest) (map_drop f e.from (take e.middle xs)
    ∙ ap (λ l. drop e.from l) (map_take f e.middle xs))
    ∙ ap (λ l. drop e.from (take e.middle (map f xs)) ++ l) (map_drop f e.to xs)
    )
    )

-- The groups after the blocks of heads and of slots are exchanged.
joined_exchanged : (hs : List GroupHead) (ss : List GroupSlots) (e : Exchange) → length hs ≡ length ss
    → joined_groups (after_exchange e hs) (after_exchange e ss) ≡ after_exchange e (joined_groups hs ss)
joined_exchanged hs ss e same =
    let gs : List Group = joined_groups hs ss in
    let uh : List GroupHead = drop e.middle (take e.to hs) in
    let us : List GroupSlots = drop e.middle (take e.to ss) in
    let lh : List GroupHead = drop e.from (take e.middle hs) in
    let ls : List GroupSlots = drop e.from (take e.middle ss) in
    let upper : joined_groups uh us ≡ drop e.middle (take e.to gs) =
    joined_drop e.middle (take e.to hs) (take e.to ss) ∙ ap (λ l. drop e.middle l) (joined_take e.to hs ss) in
    let lower : joined_groups lh ls ≡ drop e.from (take e.middle gs) =
    joined_drop e.from (take e.middle hs) (take e.middle ss) ∙ ap (λ l. drop e.from l) (joined_take e.middle hs ss) in
    joined_append (take e.from hs) (uh ++ (lh ++ drop e.to hs)) (take e.from ss) (us ++ (ls ++ drop e.to ss))
    (same_take e.from hs ss same)
    ∙ ap (λ l. l ++ joined_groups (uh ++ (lh ++ drop e.to hs)) (us ++ (ls ++ drop e.to ss)))
    (joined_take e.from hs ss)
    ∙ ap (λ l. take e.from gs ++ l) (
    joined_append uh (lh ++ drop e.to hs) us (ls ++ drop e.to ss)
    (same_drop e.middle (take e.to hs) (take e.to ss) (same_take e.to hs ss same))
    ∙ ap (λ l. l ++ joined_groups (lh ++ drop e.to hs) (ls ++ drop e.to ss)) upper
    ∙ ap (λ l. drop e.middle (take e.to gs) ++ l) (
    joined_append lh (drop e.to hs) ls (drop e.to ss)
    (same_drop e.from (take e.middle hs) (take e.middle ss) (same_take e.middle hs ss same))
    ∙ ap (λ l. l ++ joined_groups (drop e.to hs) (drop e.to ss)) lower
    ∙ ap (λ l. drop e.from (take e.middle gs) ++ l) (joined_drop e.to hs ss)
    )
    )

-- The blocks are inside the heads and inside the slots.
pub blocks_of_heads : (hs : List GroupHead) (ss : List GroupSlots) (gs : List Group) (e : Exchange)
    → AreParts hs ss gs → HasBlocks gs e → HasBlocks hs e
blocks_of_heads hs ss gs e parts blocks = same_blocks gs hs e (sym (heads_long hs ss gs parts)) blocks

pub blocks_of_slots : (hs : List GroupHead) (ss : List GroupSlots) (gs : List Group) (e : Exchange)
    → AreParts hs ss gs → HasBlocks gs e → HasBlocks ss e
blocks_of_slots hs ss gs e parts blocks =
    same_blocks hs ss e parts.long (blocks_of_heads hs ss gs e parts blocks)

-- The heads and the slots after both lists exchange their blocks are those of the groups after the exchange.
pub parts_exchanged : (hs hs' : List GroupHead) (ss ss' : List GroupSlots) (gs : List Group) (e : Exchange)
    → AreParts hs ss gs → HasBlocks gs e → hs' ≡ after_exchange e hs → ss' ≡ after_exchange e ss
    → AreParts hs' ss' (after_exchange e gs)
parts_exchanged hs hs' ss ss' gs e parts blocks eh es =
    let lower = blocks.low in
    let upper = blocks.high in
    let low : e.from ≤ e.middle = omega (arith, lower) in
    let high : e.middle ≤ e.to = omega (arith, upper) in
    same_parts (after_exchange e hs) hs' (after_exchange e ss) ss' (after_exchange e gs) eh es (record {
      joined = joined_exchanged hs ss e parts.long ∙ ap (λ l. after_exchange e l) parts.joined;
      long = long_exchanged hs e.from e.middle e.to low high (blocks_of_heads hs ss gs e parts blocks).inside
          ∙ parts.long
          ∙ sym (long_exchanged ss e.from e.middle e.to low high (blocks_of_slots hs ss gs e parts blocks).inside);
      nodes = map_exchanged (λ h. h.is_node) hs e
          ∙ ap (λ l. after_exchange e l) parts.nodes
          ∙ sym (map_exchanged (λ s. is_node_kind s.what) ss e);
    })

-- A list stays if each index of the blocks has the same item before and after the exchange.
pub exchange_keeps : {X : Type 0} (xs : List X) (f m t : ℕ) → f ≤ m → m ≤ t
    → take (t - m) (drop f xs) ≡ take (t - m) (drop m xs)
    → take (m - f) (drop (f + (t - m)) xs) ≡ take (m - f) (drop f xs) → exchanged_list f m t xs ≡ xs
exchange_keeps xs f m t low high upper lower =
    let k : ℕ = f + (t - m) in
    let end : k + (m - f) ≡ t = omega (arith, low, high) in
    let one : drop m (take t xs) ≡ take (t - m) (drop f xs) = sym (run_is xs m t high) ∙ sym upper in
    let two : drop f (take m xs) ≡ take (m - f) (drop k xs) = sym (run_is xs f m low) ∙ sym lower in
    let rest : drop t xs ≡ drop (m - f) (drop k xs) =
    ap (λ n. drop n xs) (sym end) ∙ sym (drop-drop (m - f) k xs) in
    ap (λ l. take f xs ++ (drop m (take t xs) ++ (drop f (take m xs) ++ l))) rest
    ∙ ap (λ l. take f xs ++ (drop m (take t xs) ++ (l ++ drop (m - f) (drop k xs)))) two
    ∙ ap (λ l. take f xs ++ (drop m (take t xs) ++ l)) (take-append-drop (m - f) (drop k xs))
    ∙ ap (λ l. take f xs ++ (l ++ drop k xs)) one
    ∙ ap (λ l. take f xs ++ (take (t - m) (drop f xs) ++ l)) (sym (drop-drop (t - m) f xs))
    ∙ ap (λ l. take f xs ++ l) (take-append-drop (t - m) (drop f xs))
    ∙ take-append-drop f xs

-- The reads stay if the new groups have the reads of the old groups at their places, and the exchange keeps the reads.
pub reads_exchanged : (olds news : List Group) (e : Exchange) → map (λ g. g.reads) news ≡ map (λ g. g.reads) olds
    → after_exchange e (map (λ g. g.reads) olds) ≡ map (λ g. g.reads) olds
    → map (λ g. g.reads) (after_exchange e news) ≡ map (λ g. g.reads) olds
reads_exchanged olds news e same stays =
    map_exchanged (λ g. g.reads) news e ∙ ap (λ l. after_exchange e l) same ∙ stays

-- There are as many heads after the exchange as groups.
pub heads_after : (hs hs' : List GroupHead) (ss : List GroupSlots) (gs : List Group) (e : Exchange) → AreParts hs ss gs
    → HasBlocks gs e → hs' ≡ after_exchange e hs → length hs' ≡ length gs
heads_after hs hs' ss gs e parts blocks eh =
    let low = blocks.low in
    let high = blocks.high in
    ap (λ l. length l) eh
    ∙ long_exchanged hs e.from e.middle e.to (omega (arith, low)) (omega (arith, high))
    (blocks_of_heads hs ss gs e parts blocks).inside
    ∙ heads_long hs ss gs parts

-- There are as many counts as groups.
pub counts_long : (hs : List GroupHead) (ss : List GroupSlots) (gs : List Group) (counts : List ℕ) → AreParts hs ss gs
    → counts ≡ inner_counts (joined_groups hs ss) → length counts ≡ length gs
counts_long hs ss gs counts parts is =
    ap (λ l. length l) is ∙ length_counts (joined_groups hs ss) ∙ ap (λ l. length l) parts.joined

-- There are as many groups after new groups are put at their places.
pub long_after : (olds gs news : List Group) (ps : List ℕ) (fresh : List Group) → olds ≡ gs
    → news ≡ set_all gs ps fresh → length olds ≡ length news
long_after olds gs news ps fresh same is =
    ap (λ l. length l) same ∙ sym (long_set_all gs ps fresh) ∙ ap (λ l. length l) (sym is)

-- The bare groups after the blocks of heads are exchanged.
bare_exchanged : (hs : List GroupHead) (e : Exchange)
    → bare_groups (after_exchange e hs) ≡ after_exchange e (bare_groups hs)
bare_exchanged hs e = map_exchanged _ hs e

-- The blocks are inside the bare groups of heads.
pub blocks_of_bare : (hs : List GroupHead) (e : Exchange) → HasBlocks hs e → HasBlocks (bare_groups hs) e
blocks_of_bare hs e blocks = same_blocks hs (bare_groups hs) e (sym (length-map hs _)) blocks

-- The counts after both blocks stay.
pub counts_after : (hs hs' : List GroupHead) (ss : List GroupSlots) (gs : List Group) (counts : List ℕ) (e : Exchange)
    → AreParts hs ss gs → HasBlocks gs e → hs' ≡ after_exchange e hs → counts ≡ inner_counts (joined_groups hs ss)
    → drop e.to counts ≡ inner_counts (drop e.to (bare_groups hs'))
counts_after hs hs' ss gs counts e parts blocks eh is =
    let all : List Group = bare_groups hs in
    let bare = blocks_of_bare hs e (blocks_of_heads hs ss gs e parts blocks) in
    let low = bare.low in
    let high = bare.high in
    ap (λ l. drop e.to l) (is ∙ counts_bare hs ss parts.long)
    ∙ drop_counts e.to all
    ∙ ap (λ l. inner_counts l) (sym (drop_after all e.from e.middle e.to e.to (omega (arith, low))
    (omega (arith, high)) bare.inside (omega arith)))
    ∙ ap (λ l. inner_counts (drop e.to l)) (sym (bare_exchanged hs e) ∙ ap (λ l. bare_groups l) (sym eh))

-- The counts after the exchange: those before index `from` stay, and the others are counted again.
pub counts_exchanged : (hs hs' : List GroupHead) (ss : List GroupSlots) (counts counts' : List ℕ) (e : Exchange)
    (from : ℕ) → length hs ≡ length ss → hs' ≡ after_exchange e hs → counts ≡ inner_counts (joined_groups hs ss)
    → take from (inner_counts (bare_groups hs)) ≡ take from (inner_counts (after_exchange e (bare_groups hs)))
    → take from counts' ≡ take from counts → drop from counts' ≡ inner_counts (drop from (bare_groups hs'))
    → counts' ≡ inner_counts (bare_groups hs')
counts_exchanged hs hs' ss counts counts' e from long eh is same before after =
    let all : List Group = bare_groups hs' in
    let now : all ≡ after_exchange e (bare_groups hs) = ap (λ l. bare_groups l) eh ∙ bare_exchanged hs e in
    sym (take-append-drop from counts')
    ∙ ap (λ l. l ++ drop from counts') (before ∙ ap (λ l. take from l) (is ∙ counts_bare hs ss long) ∙ same
    ∙ ap (λ l. take from (inner_counts l)) (sym now))
    ∙ ap (λ l. take from (inner_counts all) ++ l) (after ∙ sym (drop_counts from all))
    ∙ take-append-drop from (inner_counts all)
