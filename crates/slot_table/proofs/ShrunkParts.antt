-- The heads and the slots of a table that shrinks, and its counts.
use Rattle.std.proofs.Common.{◌≡◌, ◌≤◌, ◌<◌, ℕ, zero, suc, ◌+◌, ◌-◌, Bool, true, false, nat_le, if◌then◌else◌, List, [], ◌∷◌, ◌++◌, length, length-append, length-drop, map, take, drop, get_or, refl, ap, ◌∙◌, sym, arith}
use Rattle.std.proofs.lemmas.List.{length-take-le, map-append}
use Rattle.rt_groups.specs.declared.groups.Group.{Group}
use Rattle.rt_groups.specs.PreorderGroups.{flat_group}
use Rattle.slot_table.specs.declared.runs.KeptRun.{KeptRun}
use Rattle.slot_table.specs.declared.storage.GroupHead.{GroupHead}
use Rattle.slot_table.specs.SharedSlots.{GroupSlots}
use Rattle.slot_table.specs.TableGroups.{is_node_kind}
use Rattle.slot_table.specs.Storage.{joined_groups, AreParts}
use Rattle.slot_table.specs.InnerCounts.{leading_deep, inner_counts, bare_groups}
use Rattle.slot_table.specs.KeptRuns.{run_groups, patched, AreInside, IsShrunk}
use Rattle.slot_table.proofs.InnerCounts.{length_counts}
use Rattle.slot_table.proofs.JoinedGroups.{same_parts, heads_long}

-- Lists of the same length have first items of the same number.
pub same_take : {X Y : Type 0} (n : ℕ) (xs : List X) (ys : List Y) → length xs ≡ length ys
    → length (take n xs) ≡ length (take n ys)
same_take zero xs ys e = refl
same_take (suc n) [] [] e = refl
same_take (suc n) [] (y ∷ ys) e = absurd (omega (arith, e))
same_take (suc n) (x ∷ xs) [] e = absurd (omega (arith, e))
same_take (suc n) (x ∷ xs) (y ∷ ys) e = ap suc (same_take n xs ys (omega (arith, e)))

-- Lists of the same length have later items of the same number.
pub same_drop : {X Y : Type 0} (n : ℕ) (xs : List X) (ys : List Y) → length xs ≡ length ys
    → length (drop n xs) ≡ length (drop n ys)
same_drop n xs ys e = let one = length-drop n xs in let two = length-drop n ys in omega (arith, one, two, e)

-- Lists of the same lengths become lists of the same length.
same_patched : {X Y : Type 0} (xs fx : List X) (ys fy : List Y) (rs : List KeptRun) → length xs ≡ length ys
    → length fx ≡ length fy → length (patched xs fx rs) ≡ length (patched ys fy rs)
same_patched xs fx ys fy [] e f = f
same_patched xs fx ys fy (r ∷ rs) e f =
    let later = same_patched xs (drop r.gap fx) ys (drop r.gap fy) rs e (same_drop r.gap fx fy f) in
    let first = same_take r.gap fx fy f in
    let run = same_take (r.to - r.from) (drop r.from xs) (drop r.from ys) (same_drop r.from xs ys e) in
    let one = length-append (take r.gap fx) (run_groups xs r ++ patched xs (drop r.gap fx) rs) in
    let two = length-append (take r.gap fy) (run_groups ys r ++ patched ys (drop r.gap fy) rs) in
    let three = length-append (run_groups xs r) (patched xs (drop r.gap fx) rs) in
    let four = length-append (run_groups ys r) (patched ys (drop r.gap fy) rs) in
    omega (arith, later, first, run, one, two, three, four)

-- Runs are inside each list of the same length.
pub same_inside : {X Y : Type 0} (xs : List X) (ys : List Y) (rs : List KeptRun) → length xs ≡ length ys
    → AreInside xs rs → AreInside ys rs
same_inside xs ys [] e inside = tt
same_inside xs ys (r ∷ rs) e inside =
    let high = inside.1 in
    (inside.0, omega (arith, high, e), same_inside xs ys rs e inside.2)

-- Lists of the same lengths shrink in the same way.
same_shrunk : {X Y : Type 0} (xs fx : List X) (ys fy : List Y) (rs : List KeptRun) (len : ℕ) → length xs ≡ length ys
    → length fx ≡ length fy → IsShrunk xs fx rs len → IsShrunk ys fy rs len
same_shrunk xs fx ys fy rs len e f shrunk =
    let fit = shrunk.gaps_fit in
    let fewer = shrunk.fewer in
    record {
      inside = same_inside xs ys rs e shrunk.inside;
      gaps_fit = omega (arith, fit, f);
      down = shrunk.down;
      len_is = shrunk.len_is ∙ same_patched xs fx ys fy rs e f;
      fewer = omega (arith, fewer, e);
    }

-- The heads of a table shrink as the groups do.
pub heads_shrunk : (hs fh : List GroupHead) (ss fs : List GroupSlots) (gs fresh : List Group) (rs : List KeptRun)
    (len : ℕ) → AreParts hs ss gs → AreParts fh fs fresh → IsShrunk gs fresh rs len → IsShrunk hs fh rs len
heads_shrunk hs fh ss fs gs fresh rs len parts news shrunk = same_shrunk gs fresh hs fh rs len
    (sym (heads_long hs ss gs parts)) (sym (heads_long fh fs fresh news)) shrunk

-- The slots of a table shrink as the groups do.
pub slots_shrunk : (hs fh : List GroupHead) (ss fs : List GroupSlots) (gs fresh : List Group) (rs : List KeptRun)
    (len : ℕ) → AreParts hs ss gs → AreParts fh fs fresh → IsShrunk gs fresh rs len → IsShrunk ss fs rs len
slots_shrunk hs fh ss fs gs fresh rs len parts news shrunk = same_shrunk hs fh ss fs rs len parts.long news.long
    (heads_shrunk hs fh ss fs gs fresh rs len parts news shrunk)

-- The groups of two lists of heads and two lists of slots, each after the other.
pub joined_append : (hs hs' : List GroupHead) (ss ss' : List GroupSlots) → length hs ≡ length ss
    → joined_groups (hs ++ hs') (ss ++ ss') ≡ joined_groups hs ss ++ joined_groups hs' ss'
joined_append [] hs' [] ss' e = refl
joined_append [] hs' (s ∷ ss) ss' e = absurd (omega (arith, e))
joined_append (h ∷ hs) hs' [] ss' e = absurd (omega (arith, e))
joined_append (h ∷ hs) hs' (s ∷ ss) ss' e = ap (λ l. flat_group h.depth h.site h.number s.what s.reads ∷ l)
    (joined_append hs hs' ss ss' (omega (arith, e)))

-- The first groups are those of the first heads and slots.
pub joined_take : (n : ℕ) (hs : List GroupHead) (ss : List GroupSlots)
    → joined_groups (take n hs) (take n ss) ≡ take n (joined_groups hs ss)
joined_take zero hs ss = refl
joined_take (suc n) [] ss = refl
joined_take (suc n) (h ∷ hs) [] = refl
joined_take (suc n) (h ∷ hs) (s ∷ ss) =
    ap (λ l. flat_group h.depth h.site h.number s.what s.reads ∷ l) (joined_take n hs ss)

-- Heads without slots are no groups.
joined_none : (hs : List GroupHead) → joined_groups hs [] ≡ []
joined_none [] = refl
joined_none (h ∷ hs) = refl

-- The later groups are those of the later heads and slots.
pub joined_drop : (n : ℕ) (hs : List GroupHead) (ss : List GroupSlots)
    → joined_groups (drop n hs) (drop n ss) ≡ drop n (joined_groups hs ss)
joined_drop zero hs ss = refl
joined_drop (suc n) [] ss = refl
joined_drop (suc n) (h ∷ hs) [] = joined_none (drop n hs)
joined_drop (suc n) (h ∷ hs) (s ∷ ss) = joined_drop n hs ss

-- The heads and the slots of the new frame are those of its groups.
joined_patched : (hs fh : List GroupHead) (ss fs : List GroupSlots) (rs : List KeptRun) → length hs ≡ length ss
    → length fh ≡ length fs
    → joined_groups (patched hs fh rs) (patched ss fs rs) ≡ patched (joined_groups hs ss) (joined_groups fh fs) rs
joined_patched hs fh ss fs [] e f = refl
joined_patched hs fh ss fs (r ∷ rs) e f =
    let later_hs : List GroupHead = patched hs (drop r.gap fh) rs in
    let later_ss : List GroupSlots = patched ss (drop r.gap fs) rs in
    let gs : List Group = joined_groups hs ss in
    let fresh : List Group = joined_groups fh fs in
    let run : joined_groups (run_groups hs r) (run_groups ss r) ≡ run_groups gs r =
    joined_take (r.to - r.from) (drop r.from hs) (drop r.from ss)
    ∙ ap (λ l. take (r.to - r.from) l) (joined_drop r.from hs ss) in
    let later : joined_groups later_hs later_ss ≡ patched gs (drop r.gap fresh) rs =
    joined_patched hs (drop r.gap fh) ss (drop r.gap fs) rs e (same_drop r.gap fh fs f)
    ∙ ap (λ l. patched gs l rs) (joined_drop r.gap fh fs) in
    joined_append (take r.gap fh) (run_groups hs r ++ later_hs) (take r.gap fs) (run_groups ss r ++ later_ss)
    (same_take r.gap fh fs f)
    ∙ ap (λ l. l ++ joined_groups (run_groups hs r ++ later_hs) (run_groups ss r ++ later_ss))
    (joined_take r.gap fh fs)
    ∙ ap (λ l. take r.gap fresh ++ l) (
    joined_append (run_groups hs r) later_hs (run_groups ss r) later_ss
    (same_take (r.to - r.from) (drop r.from hs) (drop r.from ss) (same_drop r.from hs ss e))
    ∙ ap (λ l. l ++ joined_groups later_hs later_ss) run
    ∙ ap (λ l. run_groups gs r ++ l) later
    )

-- A function of each of the first items.
pub map_take : {X Y : Type 0} (f : X → Y) (n : ℕ) (xs : List X) → map f (take n xs) ≡ take n (map f xs)
map_take f zero xs = refl
map_take f (suc n) [] = refl
map_take f (suc n) (x ∷ xs) = ap (λ l. f x ∷ l) (map_take f n xs)

-- A function of each of the later items.
pub map_drop : {X Y : Type 0} (f : X → Y) (n : ℕ) (xs : List X) → map f (drop n xs) ≡ drop n (map f xs)
map_drop f zero xs = refl
map_drop f (suc n) [] = refl
map_drop f (suc n) (x ∷ xs) = map_drop f n xs

-- A function of each item of the new frame.
map_patched : {X Y : Type 0} (f : X → Y) (xs fresh : List X) (rs : List KeptRun)
    → map f (patched xs fresh rs) ≡ patched (map f xs) (map f fresh) rs
map_patched f xs fresh [] = refl
map_patched {X = X} f xs fresh (r ∷ rs) =
    let later : List X = patched xs (drop r.gap fresh) rs in
    map-append f (take r.gap fresh) (run_groups xs r ++ later)
    ∙ ap (λ l. l ++ map f (run_groups xs r ++ later)) (map_take f r.gap fresh)
    ∙ ap (λ l. take r.gap (map f fresh) ++ l) (
    map-append f (run_groups xs r) later
    ∙ ap (λ l. l ++ map f later) (map_take f (r.to - r.from) (drop r.from xs)
    ∙ ap (λ l. take (r.to - r.from) l) (map_drop f r.from xs))
    ∙ ap (λ l. run_groups (map f xs) r ++ l) (map_patched f xs (drop r.gap fresh) rs
    ∙ ap (λ l. patched (map f xs) l rs) (map_drop f r.gap fresh))
    )

-- The heads and the slots after both lists shrink are those of the groups of the new frame.
pub parts_shrunk : (hs hs' fh : List GroupHead) (ss ss' fs : List GroupSlots) (gs fresh : List Group)
    (rs : List KeptRun) → AreParts hs ss gs → AreParts fh fs fresh → hs' ≡ patched hs fh rs → ss' ≡ patched ss fs rs
    → AreParts hs' ss' (patched gs fresh rs)
parts_shrunk hs hs' fh ss ss' fs gs fresh rs parts news eh es = same_parts (patched hs fh rs) hs' (patched ss fs rs) ss'
    (patched gs fresh rs) eh es (record {
      joined = joined_patched hs fh ss fs rs parts.long news.long
          ∙ ap (λ l. patched l (joined_groups fh fs) rs) parts.joined ∙ ap (λ l. patched gs l rs) news.joined;
      long = same_patched hs fh ss fs rs parts.long news.long;
      nodes = map_patched (λ h. h.is_node) hs fh rs
          ∙ ap (λ l. patched l (map (λ h. h.is_node) fh) rs) parts.nodes
          ∙ ap (λ l. patched (map (λ s. is_node_kind s.what) ss) l rs) news.nodes
          ∙ sym (map_patched (λ s. is_node_kind s.what) ss fs rs);
    })

-- The leading groups of a depth depend on the heads only.
leading_bare : (depth : ℕ) (hs : List GroupHead) (ss : List GroupSlots) → length hs ≡ length ss
    → length (leading_deep depth (joined_groups hs ss)) ≡ length (leading_deep depth (bare_groups hs))
leading_bare depth [] ss e = refl
leading_bare depth (h ∷ hs) [] e = absurd (omega (arith, e))
leading_bare depth (h ∷ hs) (s ∷ ss) e = by _ _ (nat_le depth h.depth) (leading_bare depth hs ss (omega (arith, e)))
  where
    by : (x y : Group) (b : Bool)
        → length (leading_deep depth (joined_groups hs ss)) ≡ length (leading_deep depth (bare_groups hs))
        → length (if b then x ∷ leading_deep depth (joined_groups hs ss) else [])
        ≡ length (if b then y ∷ leading_deep depth (bare_groups hs) else [])
    by x y true later = ap suc later
    by x y false later = refl

-- The counts depend on the heads only.
pub counts_bare : (hs : List GroupHead) (ss : List GroupSlots) → length hs ≡ length ss
    → inner_counts (joined_groups hs ss) ≡ inner_counts (bare_groups hs)
counts_bare [] ss e = refl
counts_bare (h ∷ hs) [] e = absurd (omega (arith, e))
counts_bare (h ∷ hs) (s ∷ ss) e =
    ap (λ n. n ∷ inner_counts (joined_groups hs ss)) (leading_bare (h.depth + 1) hs ss (omega (arith, e)))
    ∙ ap (λ l. length (leading_deep (h.depth + 1) (bare_groups hs)) ∷ l) (counts_bare hs ss (omega (arith, e)))

-- The depth of a head, as that of its bare group.
pub bare_depth : (hs : List GroupHead) (i : ℕ) (h : GroupHead) (d : Group) → i < length hs → h ≡ get_or hs i h
    → h.depth ≡ (get_or (bare_groups hs) i d).depth
bare_depth [] i h d inside is = absurd (omega (arith, inside))
bare_depth (x ∷ hs) zero h d inside is = ap (λ y. y.depth) is
bare_depth (x ∷ hs) (suc i) h d inside is = bare_depth hs i h d (omega (arith, inside)) is

-- The number of counts of a table that are kept.
pub first_counts : (hs : List GroupHead) (ss : List GroupSlots) (gs : List Group) (counts : List ℕ) (len : ℕ)
    → AreParts hs ss gs → counts ≡ inner_counts (joined_groups hs ss) → len ≤ length gs
    → length (take len counts) ≡ len
first_counts hs ss gs counts len parts is fewer =
    let long : length counts ≡ length gs =
    ap (λ l. length l) is ∙ length_counts (joined_groups hs ss) ∙ ap (λ l. length l) parts.joined in
    length-take-le len counts (omega (arith, long, fewer))
