-- The number of groups inside each group of a list in preorder.
use Rattle.std.proofs.Common.{◌≡◌, ◌≤◌, ◌<◌, ℕ, zero, suc, ◌+◌, ◌-◌, nat_le, Bool, true, false, List, [], ◌∷◌, length, drop, drop-cons, length-drop, get_or, set, length-set, if◌then◌else◌, refl, ap, sym, ◌∙◌, arith}
use Rattle.std.proofs.lemmas.List.{drop-drop, get_or-drop}
use Rattle.std.proofs.lemmas.Bool.{leb-true, le-leb}
use Rattle.rt_groups.specs.declared.groups.Group.{Group}
use Rattle.slot_table.specs.ReaderStates.{after_deep}
use Rattle.slot_table.specs.InnerCounts.{leading_deep, inner_counts}

pub length_counts : (gs : List Group) → length (inner_counts gs) ≡ length gs
length_counts [] = refl
length_counts (g ∷ gs) = ap suc (length_counts gs)

-- The count at the index of a group.
pub size_is : (gs rest : List Group) (g : Group) (i d : ℕ) → drop i gs ≡ g ∷ rest
    → get_or (inner_counts gs) i d ≡ length (leading_deep (g.depth + 1) rest)
size_is [] rest g zero d e = absurd cc
size_is [] rest g (suc i) d e = absurd cc
size_is (h ∷ gs) rest g zero d e = cc
size_is (h ∷ gs) rest g (suc i) d e = size_is gs rest g i d e

-- The groups inside a group are the first of those after it.
pub past_is : (depth : ℕ) (gs : List Group) → drop (length (leading_deep depth gs)) gs ≡ after_deep depth gs
past_is depth [] = refl
past_is depth (g ∷ gs) = by (nat_le depth g.depth) (past_is depth gs)
  where
    by : (b : Bool) → drop (length (leading_deep depth gs)) gs ≡ after_deep depth gs
        → drop (length (if b then g ∷ leading_deep depth gs else [])) (g ∷ gs)
        ≡ (if b then after_deep depth gs else g ∷ gs)
    by true later = later
    by false later = refl

pub fewer : (depth : ℕ) (gs : List Group) → length (leading_deep depth gs) ≤ length gs
fewer depth [] = omega arith
fewer depth (g ∷ gs) = by (nat_le depth g.depth) (fewer depth gs)
  where
    by : (b : Bool) → length (leading_deep depth gs) ≤ length gs
        → length (if b then g ∷ leading_deep depth gs else []) ≤ suc (length gs)
    by true e = omega (arith, e)
    by false e = omega arith

-- The items from an index are the item at that index and the items after it.
pub first_at : {X : Type 0} (xs rest : List X) (x : X) (i : ℕ) → i < length xs → x ≡ get_or xs i x
    → drop i xs ≡ x ∷ drop (suc i) xs
first_at xs rest x i inside e = drop-cons xs i x inside ∙ ap (λ y. y ∷ drop (suc i) xs) (sym e)

-- The index after a group and all groups inside it.
pub after_is : (gs rest : List Group) (g : Group) (i size : ℕ) → drop i gs ≡ g ∷ rest
    → size ≡ get_or (inner_counts gs) i size → drop (i + 1 + size) gs ≡ after_deep (g.depth + 1) rest
after_is gs rest g i size e s =
    let long : size ≡ length (leading_deep (g.depth + 1) rest) = s ∙ size_is gs rest g i size e in
    let sum : i + 1 + size ≡ i + suc size = omega arith in
    ap (λ n. drop n gs) sum ∙ sym (drop-drop (suc size) i gs) ∙ ap (λ l. drop (suc size) l) e
    ∙ ap (λ n. drop n rest) long ∙ past_is (g.depth + 1) rest

-- The index after a group and its inner groups is at most the length of the list.
pub after_fits : (gs : List Group) (g : Group) (i size : ℕ) → i < length gs → size ≡ get_or (inner_counts gs) i size
    → i + 1 + size ≤ length gs
after_fits gs g i size inside s =
    let first : Group = get_or gs i g in
    let e : drop i gs ≡ first ∷ drop (suc i) gs = drop-cons gs i g inside in
    let long : size ≡ length (leading_deep (first.depth + 1) (drop (suc i) gs)) =
    s ∙ size_is gs (drop (suc i) gs) first i size e in
    let few = fewer (first.depth + 1) (drop (suc i) gs) in
    let rest = length-drop (suc i) gs in
    omega (arith, long, few, rest, inside)

-- The groups inside a group are one group with those inside it, and the rest.
pub deep_split : (d k : ℕ) (gs : List Group) → d ≤ k
    → length (leading_deep d gs) ≡ length (leading_deep k gs) + length (leading_deep d (after_deep k gs))
deep_split d k [] le = refl
deep_split d k (g ∷ gs) le = by (nat_le k g.depth)
    (λ e. le-leb d g.depth (let at = leb-true k g.depth e in omega (arith, at, le))) (deep_split d k gs le)
  where
    by : (b : Bool) → (b ≡ true → nat_le d g.depth ≡ true)
        → length (leading_deep d gs) ≡ length (leading_deep k gs) + length (leading_deep d (after_deep k gs))
        → length (leading_deep d (g ∷ gs)) ≡ length (if b then g ∷ leading_deep k gs else []) + length
        (leading_deep d (if b then after_deep k gs else g ∷ gs))
    by true up e = let more : length (leading_deep d (g ∷ gs)) ≡ suc
        (length (leading_deep d gs)) = ap (λ c. length (if c then g ∷ leading_deep d gs else [])) (up refl) in
        omega (arith, more, e)
    by false up e = omega arith

-- The first group from an index on.
pub record FirstAt (gs : List Group) (k : ℕ) : Type 0 where
  pub first : Group
  pub is : drop k gs ≡ first ∷ drop (suc k) gs

pub first_of_rest : (gs : List Group) (k : ℕ) → k < length gs → FirstAt gs k
first_of_rest [] k inside = absurd (omega (arith, inside))
first_of_rest (g ∷ gs) zero inside = record { first = g; is = refl }
first_of_rest (g ∷ gs) (suc k) inside = let later = first_of_rest gs k (omega (arith, inside)) in
    record { first = later.first; is = later.is }

pub set_first : (xs : List ℕ) (k v : ℕ) → k < length xs → drop k (set xs k v) ≡ v ∷ drop (suc k) xs
set_first [] k v inside = absurd (omega (arith, inside))
set_first (x ∷ xs) zero v inside = refl
set_first (x ∷ xs) (suc k) v inside = set_first xs k v (omega (arith, inside))

-- The counts from an index, after the count of the group at that index is set.
pub one_more : (gs : List Group) (counts : List ℕ) (at k v : ℕ) → at ≡ k + 1 → at ≤ length gs
    → length counts ≡ length gs → drop at counts ≡ inner_counts (drop at gs)
    → ((g : Group) (rest : List Group) → drop k gs ≡ g ∷ rest → v ≡ length (leading_deep (g.depth + 1) rest))
    → (k ≤ length gs) × (length (set counts k v) ≡ length gs) × (drop k (set counts k v) ≡ inner_counts (drop k gs))
one_more gs counts at k v next inside long known told =
    let one = first_of_rest gs k (omega (arith, next, inside)) in
    let same : at ≡ suc k = omega (arith, next) in
    let here = told one.first (drop (suc k) gs) one.is in
    let later : drop (suc k) counts ≡ inner_counts (drop (suc k) gs) = ap (λ n. drop n counts) (sym same) ∙ known
    ∙ ap (λ n. inner_counts (drop n gs)) same in (
      omega (arith, next, inside),
      length-set counts k v ∙ long,
      set_first counts k v (omega (arith, next, inside, long)) ∙ ap (λ n. n ∷ drop (suc k) counts) here
          ∙ ap (λ l. length (leading_deep (one.first.depth + 1) (drop (suc k) gs)) ∷ l) later
          ∙ sym (ap inner_counts one.is),
    )

-- The known count of a later group is its count in the whole list.
known_size : (gs : List Group) (counts : List ℕ) (e : Group) (i next size : ℕ) → i + 1 ≤ next → next < length gs
    → drop (i + 1) counts ≡ inner_counts (drop (i + 1) gs) → size ≡ get_or counts next 0 → e ≡ get_or gs next e
    → size ≡ length (leading_deep (e.depth + 1) (drop (suc next) gs))
known_size gs counts e i next size low inside known s is =
    let j : ℕ = next - (i + 1) in
    let whole : (i + 1) + j ≡ next = omega (arith, low) in
    let first : drop j (drop (i + 1) gs) ≡ e ∷ drop (suc next) gs = drop-drop j (i + 1) gs ∙ ap (λ n. drop n gs) whole
    ∙ first_at gs (drop (suc next) gs) e next inside is in
    s ∙ ap (λ n. get_or counts n 0) (sym whole) ∙ sym (get_or-drop (i + 1) counts j 0) ∙ ap (λ l. get_or l j 0) known
    ∙ size_is (drop (i + 1) gs) (drop (suc next) gs) e j 0 first

-- A group inside the one at index i is counted with all groups inside it.
pub counted : (gs : List Group) (counts : List ℕ) (e : Group) (i next size d : ℕ)
    → drop (i + 1) counts ≡ inner_counts (drop (i + 1) gs) → size ≡ get_or counts next 0 → next < length gs
    → e ≡ get_or gs next e → d < e.depth
    → (i + 1 ≤ next) × (next ≤ length gs)
    × ((next - (i + 1)) + length (leading_deep (d + 1) (drop next gs)) ≡ length
    (leading_deep (d + 1) (drop (i + 1) gs)))
    → (i + 1 ≤ next + 1 + size) × (next + 1 + size ≤ length gs)
    × (((next + 1 + size) - (i + 1)) + length (leading_deep (d + 1) (drop (next + 1 + size) gs)) ≡ length
    (leading_deep (d + 1) (drop (i + 1) gs)))
counted gs counts e i next size d known s inside is deeper so_far =
    let low = so_far.0 in
    let rest : List Group = drop (suc next) gs in
    let told = known_size gs counts e i next size low inside known s is in
    let first : drop next gs ≡ e ∷ rest = first_at gs rest e next inside is in
    let few = fewer (e.depth + 1) rest in
    let long = length-drop (suc next) gs in
    let fits : next + 1 + size ≤ length gs = omega (arith, told, few, long, inside) in
    let enough : d + 1 ≤ e.depth = omega (arith, deeper) in
    let one : length (leading_deep (d + 1) (drop next gs)) ≡ suc (length (leading_deep (d + 1) rest)) =
    ap (λ l. length (leading_deep (d + 1) l)) first
    ∙ ap (λ b. length (if b then e ∷ leading_deep (d + 1) rest else [])) (le-leb (d + 1) e.depth enough) in
    let split = deep_split (d + 1) (e.depth + 1) rest (omega (arith, deeper)) in
    let sum : next + 1 + size ≡ suc next + size = omega arith in
    let later : drop (next + 1 + size) gs ≡ after_deep (e.depth + 1) rest = ap (λ n. drop n gs) sum
    ∙ sym (drop-drop size (suc next) gs) ∙ ap (λ n. drop n rest) told ∙ past_is (e.depth + 1) rest in
    let after = ap (λ l. length (leading_deep (d + 1) l)) later in
    let whole = so_far.2 in
    (omega (arith, low), fits, omega (arith, one, split, told, after, whole, low))

leading_set : (d : ℕ) (gs : List Group) (i : ℕ) (g h : Group) → g.depth ≡ (get_or gs i h).depth
    → length (leading_deep d (set gs i g)) ≡ length (leading_deep d gs)
leading_set d [] i g h same = refl
leading_set d (x ∷ gs) zero g h same =
    ap (λ k. length (if nat_le d k then g ∷ leading_deep d gs else [])) same ∙ by (nat_le d x.depth)
  where
    by : (b : Bool)
        → length (if b then g ∷ leading_deep d gs else []) ≡ length (if b then x ∷ leading_deep d gs else [])
    by true = refl
    by false = refl
leading_set d (x ∷ gs) (suc i) g h same = by (nat_le d x.depth) (leading_set d gs i g h same)
  where
    by : (b : Bool) → length (leading_deep d (set gs i g)) ≡ length (leading_deep d gs)
        → length (if b then x ∷ leading_deep d (set gs i g) else []) ≡ length (if b then x ∷ leading_deep d gs else [])
    by true e = ap suc e
    by false e = refl

-- The counts stay if a group is replaced by a group of the same depth.
pub counts_set : (gs : List Group) (i : ℕ) (g h : Group) → g.depth ≡ (get_or gs i h).depth
    → inner_counts (set gs i g) ≡ inner_counts gs
counts_set [] i g h same = refl
counts_set (x ∷ gs) zero g h same = ap (λ k. length (leading_deep (k + 1) gs) ∷ inner_counts gs) same
counts_set (x ∷ gs) (suc i) g h same =
    ap (λ n. n ∷ inner_counts (set gs i g)) (leading_set (x.depth + 1) gs i g h same)
    ∙ ap (λ l. length (leading_deep (x.depth + 1) gs) ∷ l) (counts_set gs i g h same)

-- The counts of the later groups.
pub drop_counts : (n : ℕ) (gs : List Group) → drop n (inner_counts gs) ≡ inner_counts (drop n gs)
drop_counts zero gs = refl
drop_counts (suc n) [] = refl
drop_counts (suc n) (g ∷ gs) = drop_counts n gs
