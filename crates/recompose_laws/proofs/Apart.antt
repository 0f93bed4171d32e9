-- Each old group is matched at most once, so node numbers stay unique.
use Rattle.std.proofs.Common.{ℕ, zero, suc, ◌+◌, ◌<◌, ◌≤◌, ◌==◌, ◌≡◌, ◌⊎◌, inl, inr, List, [], ◌∷◌, refl, ap, ◌∙◌, sym, subst, Bool, true, false, ◌&&◌, nat_lt, if◌then◌else◌, Option, Some, None, arith}
use Rattle.std.specs.Option.{option_eq}
use Rattle.std.proofs.lemmas.Bool.{and_parts, eqb-true, le-ltb, lt-ltb, cases_Bool as true_or_false}
use Rattle.rt_values.specs.declared.value.Value.{Value}
use Rattle.rt_values.specs.Values.{same_value}
use Rattle.rt_groups.specs.GroupForest.{GroupForest, End, Read, Group, GroupKind, Call, Node, Key, Cell, is_node}
use Rattle.rt_groups.specs.Paths.{GroupKey, sibling, same_sibling, occurrence, Found, nth, matching_sibling, inside_of}
use Rattle.rt_groups.specs.Frames.{given_number}
use Rattle.rt_values.proofs.Equal.{told_equal}
use Rattle.recompose_laws.specs.Numbering.{numbered_by_siblings}
use Rattle.recompose_laws.specs.Distinct.{has_number, how_often, AreDistinct, NodesAt, NumbersStayDistinct}
use Rattle.recompose_laws.proofs.Selves.{sibling_itself}
use Rattle.recompose_laws.proofs.Refreshes.{split_at}
use Rattle.recompose_laws.proofs.Numbers.{path_numbers_are_sibling_numbers}

-- Siblings with the same site and key are equal.

same_key : (k l : Option Value) → option_eq same_value k l ≡ true → k ≡ l
same_key None None e = refl
same_key None (Some w) e = absurd cc
same_key (Some v) None e = absurd cc
same_key (Some v) (Some w) e = ap Some ((told_equal v w (same_value v w) refl).0 e)

same_is : (s t : GroupKey) → same_sibling s t ≡ true → s ≡ t
same_is s t e =
    let both = and_parts (s.site == t.site) (option_eq same_value s.key t.key) e in
    let site : s.site ≡ t.site = eqb-true s.site t.site both.0 in
    ap (λ n. record { site = n; key = s.key }) site
    ∙ ap (λ k. record { site = t.site; key = k }) (same_key s.key t.key both.1)

other_way : (s t : GroupKey) → same_sibling s t ≡ false → same_sibling t s ≡ false
other_way s t e = elim (true_or_false (same_sibling t s)) [
  | inl h ↦ let f : same_sibling s t ≡ true = ap (λ r. same_sibling r t) (sym (same_is t s h)) ∙ sibling_itself t in
      absurd cc
  | inr h ↦ h
]

-- Two siblings are equal, or `same_sibling` is false both ways.
compared : (s t : GroupKey) → (s ≡ t) ⊎ ((same_sibling s t ≡ false) × (same_sibling t s ≡ false))
compared s t =
    elim (true_or_false (same_sibling s t)) [ inl h ↦ inl (same_is s t h) | inr h ↦ inr (h, other_way s t h) ]

-- How often a number occurs in the old groups that are still unmatched.

-- The count in one group with its contents.
abbrev count : ℕ → ℕ → GroupKind → GroupForest → ℕ
count x n what inside = has_number x n what + how_often x inside

abbrev count_found : ℕ → Option Found → ℕ
count_found x None = 0
count_found x (Some f) = count x f.number f.what f.inside

abbrev unless_gone : Bool → ℕ → ℕ
unless_gone true c = 0
unless_gone false c = c

-- `passed` has the old siblings so far, and `seen` the new siblings. A group is matched if as many new siblings have
-- its site and key.
abbrev left : ℕ → List GroupKey → List GroupKey → GroupForest → ℕ
left x passed seen End = 0
left x passed seen (Read y rest) = left x passed seen rest
left x passed seen (Group site n what inside rest) =
    unless_gone (nat_lt (occurrence (sibling site what) passed) (occurrence (sibling site what) seen))
    (count x n what inside) + left x (sibling site what ∷ passed) seen rest

once_more : (s : GroupKey) (seen : List GroupKey) → occurrence s (s ∷ seen) ≡ 1 + occurrence s seen
once_more s seen = ap (λ b. (if b then 1 else 0) + occurrence s seen) (sibling_itself s)

no_more : (s t : GroupKey) (seen : List GroupKey) → same_sibling t s ≡ false
    → occurrence s (t ∷ seen) ≡ occurrence s seen
no_more s t seen e = let f = ap (λ b. (if b then 1 else 0) + occurrence s seen) e in omega (arith, f)

left_all : (x : ℕ) (passed : List GroupKey) (old : GroupForest) → left x passed [] old ≡ how_often x old
left_all x passed End = refl
left_all x passed (Read y rest) = left_all x passed rest
left_all x passed (Group site n what inside rest) =
    let none : nat_lt (occurrence (sibling site what) passed) 0 ≡ false =
    le-ltb (occurrence (sibling site what) passed) 0 (omega arith) in
    let here = ap (λ b. unless_gone b (count x n what inside)) none in
    let later = left_all x (sibling site what ∷ passed) rest in
    omega (arith, here, later)

-- After the groups that were matched with s, another s removes nothing.
done_with : (x : ℕ) (s : GroupKey) (passed seen : List GroupKey) (old : GroupForest)
    → occurrence s seen < occurrence s passed → left x passed (s ∷ seen) old ≡ left x passed seen old
done_with x s passed seen End h = refl
done_with x s passed seen (Read y rest) h = done_with x s passed seen rest h
done_with x s passed seen (Group site n what inside rest) h =
    let later = done_with x s (sibling site what ∷ passed) seen rest (omega (arith, h)) in
    let here : unless_gone (nat_lt (occurrence (sibling site what) passed) (occurrence (sibling site what) (s ∷ seen))) (count x n what inside) ≡ unless_gone (nat_lt (occurrence (sibling site what) passed) (occurrence (sibling site what) seen)) (count x n what inside) =
    elim (compared (sibling site what) s) [
      | inl e ↦
          let at : occurrence (sibling site what) seen < occurrence (sibling site what) passed =
          subst (λ (r : GroupKey). occurrence r seen < occurrence r passed) (sym e) h in
          let more : occurrence (sibling site what) (s ∷ seen) ≡ 1 + occurrence (sibling site what) seen =
          ap (λ (r : GroupKey). occurrence (sibling site what) (r ∷ seen)) (sym e)
          ∙ once_more (sibling site what) seen in
          let f = le-ltb (occurrence (sibling site what) passed) (occurrence (sibling site what) (s ∷ seen))
          (omega (arith, at, more)) in
          let g = le-ltb (occurrence (sibling site what) passed) (occurrence (sibling site what) seen)
          (omega (arith, at)) in
          ap (λ b. unless_gone b (count x n what inside)) (f ∙ sym g)
      | inr apart ↦ ap (λ j. unless_gone (nat_lt (occurrence (sibling site what) passed) j) (count x n what inside))
          (no_more (sibling site what) s seen apart.1)
    ] in
    omega (arith, here, later)

abbrev Takes : ℕ → GroupKey → List GroupKey → List GroupKey → ℕ → GroupForest → Type 0
Takes x s passed seen k old = occurrence s seen ≡ occurrence s passed + k
    → left x passed seen old ≡ count_found x (matching_sibling s k old) + left x passed (s ∷ seen) old

take_here : (x site n : ℕ) (what : GroupKind) (inside rest : GroupForest) (passed seen : List GroupKey) (k : ℕ) →
    ((j : ℕ) → Takes x (sibling site what) (sibling site what ∷ passed) seen j rest)
    → Takes x (sibling site what) passed seen k (Group site n what inside rest)
take_here x site n what inside rest passed seen zero ih e =
    let s = sibling site what in
    let me : Found = record { number = n; what = what; inside = inside } in
    let found = ap (λ b. count_found x (if b then Some me else matching_sibling s 0 rest)) (sibling_itself s) in
    let kept = ap (λ b. unless_gone b (count x n what inside))
    (le-ltb (occurrence s passed) (occurrence s seen) (omega (arith, e))) in
    let more = once_more s seen in
    let gone = ap (λ b. unless_gone b (count x n what inside))
    (lt-ltb (occurrence s passed) (occurrence s (s ∷ seen)) (omega (arith, e, more))) in
    let over = once_more s passed in
    let later = done_with x s (s ∷ passed) seen rest (omega (arith, e, over)) in
    omega (arith, found, kept, gone, later)
take_here x site n what inside rest passed seen (suc k) ih e =
    let s = sibling site what in
    let me : Found = record { number = n; what = what; inside = inside } in
    let found = ap (λ b. count_found x (if b then matching_sibling s k rest else matching_sibling s (suc k) rest))
    (sibling_itself s) in
    let gone = ap (λ b. unless_gone b (count x n what inside))
    (lt-ltb (occurrence s passed) (occurrence s seen) (omega (arith, e))) in
    let more = once_more s seen in
    let still = ap (λ b. unless_gone b (count x n what inside))
    (lt-ltb (occurrence s passed) (occurrence s (s ∷ seen)) (omega (arith, e, more))) in
    let over = once_more s passed in
    let later = ih k (omega (arith, e, over)) in
    omega (arith, found, gone, still, later)

take_other : (x : ℕ) (s : GroupKey) (site n : ℕ) (what : GroupKind) (inside rest : GroupForest)
    (passed seen : List GroupKey) (k : ℕ) → same_sibling (sibling site what) s ≡ false
    → same_sibling s (sibling site what) ≡ false →
    Takes x s (sibling site what ∷ passed) seen k rest → Takes x s passed seen k (Group site n what inside rest)
take_other x s site n what inside rest passed seen k f g ih e =
    let me : Found = record { number = n; what = what; inside = inside } in
    let found = ap (λ b. count_found x
    (if b then nth k me (λ j. matching_sibling s j rest) else matching_sibling s k rest)) f in
    let over = no_more s (sibling site what) passed f in
    let later = ih (omega (arith, e, over)) in
    let here = ap (λ j. unless_gone (nat_lt (occurrence (sibling site what) passed) j) (count x n what inside))
    (no_more (sibling site what) s seen g) in
    omega (arith, found, later, here)

-- A new group removes the old group that it is matched with, and leaves the others.
takes : (x : ℕ) (s : GroupKey) (passed seen : List GroupKey) (k : ℕ) (old : GroupForest) → Takes x s passed seen k old
takes x s passed seen k End e = refl
takes x s passed seen k (Read y rest) e = takes x s passed seen k rest e
takes x s passed seen k (Group site n what inside rest) e = elim (compared (sibling site what) s) [
  | inl same ↦
      subst (λ (r : GroupKey). Takes x r passed seen k (Group site n what inside rest)) same
      (take_here x site n what inside rest passed seen k
      (λ j. takes x (sibling site what) (sibling site what ∷ passed) seen j rest)) e
  | inr apart ↦ take_other x s site n what inside rest passed seen k apart.0 apart.1
      (takes x s (sibling site what ∷ passed) seen k rest) e
]

-- A matched group is a node exactly if its site is a node site.

abbrev FoundAt : (ℕ → Bool) → ℕ → Option Found → Type 0
FoundAt at_site site None = Unit {0}
FoundAt at_site site (Some f) = (is_node f.what ≡ at_site site) × NodesAt at_site f.inside

found_in : (at_site : ℕ → Bool) (s : GroupKey) (site n : ℕ) (what : GroupKind) (inside rest : GroupForest) (k : ℕ)
    (b : Bool) → same_sibling (sibling site what) s ≡ b → NodesAt at_site (Group site n what inside rest) →
    ((j : ℕ) → FoundAt at_site s.site (matching_sibling s j rest))
    → FoundAt at_site s.site (if b
    then nth k (record { number = n; what = what; inside = inside }) (λ j. matching_sibling s j rest)
    else matching_sibling s k rest)
found_in at_site s site n what inside rest zero true e h later =
    (h.0 ∙ ap (λ (r : GroupKey). at_site r.site) (same_is (sibling site what) s e), h.1)
found_in at_site s site n what inside rest (suc k) true e h later = later k
found_in at_site s site n what inside rest k false e h later = later k

found_at : (at_site : ℕ → Bool) (s : GroupKey) (k : ℕ) (old : GroupForest) → NodesAt at_site old
    → FoundAt at_site s.site (matching_sibling s k old)
found_at at_site s k End h = tt
found_at at_site s k (Read y rest) h = found_at at_site s k rest h
found_at at_site s k (Group site n what inside rest) h =
    found_in at_site s site n what inside rest k (same_sibling (sibling site what) s) refl h
    (λ j. found_at at_site s j rest h.2)

inside_at_sites : (at_site : ℕ → Bool) (site : ℕ) (old : Option Found) → FoundAt at_site site old
    → NodesAt at_site (inside_of old)
inside_at_sites at_site site None h = tt
inside_at_sites at_site site (Some f) h = h.1

-- Each number belongs to at most one node.

abbrev below : ℕ → ℕ → ℕ
below x k = if nat_lt x k then 1 else 0

below_next : (x k : ℕ) → (if k == x then 1 else 0) + below x k ≤ below x (k + 1)
below_next x k = grind arith

node_count : (x : ℕ) (at_site : ℕ → Bool) (site : ℕ) (what : GroupKind) (old : Option Found) (k : ℕ)
    → is_node what ≡ at_site site → FoundAt at_site site old →
    has_number x (given_number what old k).0 what + how_often x (inside_of old) + below x k ≤ count_found x old + below x
    (given_number what old k).1
node_count x at_site site (Call f vs) None k e h = omega arith
node_count x at_site site (Call f vs) (Some g) k e h = omega arith
node_count x at_site site (Key v) None k e h = omega arith
node_count x at_site site (Key v) (Some g) k e h = omega arith
node_count x at_site site (Cell ks v) None k e h = omega arith
node_count x at_site site (Cell ks v) (Some g) k e h = omega arith
node_count x at_site site (Node kind attributes) None k e h = let f = below_next x k in omega (arith, f)
node_count x at_site site (Node kind attributes) (Some g) k e h =
    let f = ap {B = ℕ} (λ b. if b && (g.number == x) then 1 else 0) (h.0 ∙ sym e) in omega (arith, f)

spread : (x : ℕ) (at_site : ℕ → Bool) (old : GroupForest) (seen : List GroupKey) (k : ℕ) (t : GroupForest)
    → NodesAt at_site old → NodesAt at_site t →
    how_often x (numbered_by_siblings old seen k t).0 + below x k ≤ left x [] seen old + below x
    (numbered_by_siblings old seen k t).1
spread x at_site old seen k End g h = omega arith
spread x at_site old seen k (Read y rest) g h = spread x at_site old seen k rest g h
spread x at_site old seen k (Group site n what inside rest) g h =
    let s = sibling site what in
    let found = matching_sibling s (occurrence s seen) old in
    let found_is = found_at at_site s (occurrence s seen) old g in
    let first = (given_number what found k).1 in
    let within = (numbered_by_siblings (inside_of found) [] first inside).1 in
    let here = node_count x at_site site what found k h.0 found_is in
    let inner = spread x at_site (inside_of found) [] first inside (inside_at_sites at_site site found found_is) h.1 in
    let all = left_all x [] (inside_of found) in
    let outer = spread x at_site old (s ∷ seen) within rest g h.2 in
    let taken = takes x s [] seen (occurrence s seen) old (omega arith) in
    omega (arith, here, inner, all, outer, taken)

nodes_beside : (at_site : ℕ → Bool) (old : GroupForest) (seen : List GroupKey) (k : ℕ) (t : GroupForest)
    → NodesAt at_site t → NodesAt at_site (numbered_by_siblings old seen k t).0
nodes_beside at_site old seen k End h = tt
nodes_beside at_site old seen k (Read y rest) h = nodes_beside at_site old seen k rest h
nodes_beside at_site old seen k (Group site n what inside rest) h =
    let s = sibling site what in
    let found = matching_sibling s (occurrence s seen) old in
    let first = (given_number what found k).1 in (
      h.0,
      nodes_beside at_site (inside_of found) [] first inside h.1,
      nodes_beside at_site old (s ∷ seen) (numbered_by_siblings (inside_of found) [] first inside).1 rest h.2,
    )

below_one : (x k : ℕ) → below x k ≤ 1
below_one x k = elim (nat_lt x k) as (λ b. (if b then 1 else 0) ≤ 1) [ true ↦ omega arith | false ↦ omega arith ]

below_past : (x k : ℕ) → k ≤ x → below x k ≡ 0
below_past x k h = ap (λ b. if b then 1 else 0) (le-ltb x k h)

below_before : (x k : ℕ) → x < k → below x k ≡ 1
below_before x k h = ap (λ b. if b then 1 else 0) (lt-ltb x k h)

apart : (at_site : ℕ → Bool) (old : GroupForest) (k : ℕ) (t : GroupForest) → NodesAt at_site old → NodesAt at_site t
    → AreDistinct old k → AreDistinct (numbered_by_siblings old [] k t).0 (numbered_by_siblings old [] k t).1
apart at_site old k t g h distinct x =
    let all = left_all x [] old in
    let most = spread x at_site old [] k t g h in
    let one = below_one x (numbered_by_siblings old [] k t).1 in
    let was = (distinct x).0 in
    elim (split_at x k) [
      | inl before ↦
          let b = below_before x k before in (
            omega (arith, all, most, one, was, b),
            λ past. let p = below_past x (numbered_by_siblings old [] k t).1 past in
                omega (arith, all, most, was, b, p),
          )
      | inr after ↦
          let none = (distinct x).1 after in (
            omega (arith, all, most, one, none),
            λ past. let p = below_past x (numbered_by_siblings old [] k t).1 past in
                omega (arith, all, most, none, p),
          )
    ]

pub numbers_stay_distinct : NumbersStayDistinct
numbers_stay_distinct at_site old new k g h distinct =
    let e = sym (path_numbers_are_sibling_numbers old new k) in (
      subst (λ (p : GroupForest × ℕ). AreDistinct p.0 p.1) e (apart at_site old k new g h distinct),
      subst (λ (p : GroupForest × ℕ). NodesAt at_site p.0) e (nodes_beside at_site old [] k new h),
    )
