-- The groups of an old forest by their indexes: those with one key, and what is inside each.
use Rattle.std.proofs.Common.{◌≡◌, ◌≤◌, ◌<◌, ℕ, zero, suc, ◌+◌, ◌==◌, nat_lt, Bool, true, false, List, ◌∷◌, length, length-append, Option, Some, None, if◌then◌else◌, refl, ap, sym, subst, ◌∙◌, arith}
use Rattle.std.specs.Prelude.{slice_get}
use Rattle.std.proofs.lemmas.Bool.{eq-eqb, eqb-true, ltb-true, ltb-false}
use Rattle.rt_groups.specs.GroupForest.{GroupForest, End, Read, Group, GroupKind, Call, Node, Key, Cell, how_many}
use Rattle.rt_groups.specs.PreorderGroups.{preorder, flat_group, flat_kind}
use Rattle.rt_groups.specs.Paths.{GroupKey, sibling, same_sibling, key_of, Found, nth, matching_sibling, inside_of}
use Rattle.slot_table.specs.ReaderStates.{group_key}
use Rattle.path_laws.specs.GroupPaths.{indexed_forest, number_found}
use Rattle.run_causes.specs.OldMatches.{table_key, key_indexes, inside_at, level_of, inner_level}

-- A group of a table has the key of the group.
same_key : (what : GroupKind) → group_key (flat_kind what) ≡ key_of what
same_key (Call f vs) = refl
same_key (Node kind attributes) = refl
same_key (Key v) = refl
same_key (Cell ks v) = refl

pub key_kept : (d site number : ℕ) (what : GroupKind) (reads : List ℕ)
    → table_key (flat_group d site number (flat_kind what) reads) ≡ sibling site what
key_kept d site number what reads = ap (λ k. record { site = site; key = k }) (same_key what)

-- The groups in preorder are as many as the groups of the forest.
pub preorder_count : (d : ℕ) (t : GroupForest) → length (preorder d t) ≡ how_many t
preorder_count d End = refl
preorder_count d (Read x rest) = preorder_count d rest
preorder_count d (Group site number what inside rest) =
    let both = length-append (preorder (d + 1) inside) (preorder d rest) in
    let within = preorder_count (d + 1) inside in
    let later = preorder_count d rest in
    omega (arith, both, within, later)

pub index_after : (k : ℕ) (t : GroupForest) → (indexed_forest k t).1 ≡ k + how_many t
index_after k End = omega arith
index_after k (Read x rest) = index_after k rest
index_after k (Group site number what inside rest) =
    let within = index_after (k + 1) inside in
    let more = index_after (indexed_forest (k + 1) inside).1 rest in
    omega (arith, within, more)

-- The group at index i of the forest t, whose first group has index k, is the group that a lookup found in the same
-- forest with indexes as numbers.
pub record IsGroupAt (k : ℕ) (t : GroupForest) (i : ℕ) (f : Found) : Type 0 where
  pub number : f.number ≡ i
  pub first : k ≤ i
  pub last : (i + 1) + how_many (inside_at i k t) ≤ k + how_many t
  pub inside : f.inside ≡ (indexed_forest (i + 1) (inside_at i k t)).0
  pub deeper : (j : ℕ) → i < j → j < (i + 1) + how_many (inside_at i k t)
      → inside_at j k t ≡ inside_at j (i + 1) (inside_at i k t)

abbrev pub IsMatched : ℕ → GroupForest → Option ℕ → Option Found → Type 0
IsMatched k t None None = Unit {0}
IsMatched k t None (Some f) = ⊥
IsMatched k t (Some i) None = ⊥
IsMatched k t (Some i) (Some f) = IsGroupAt k t i f

differs : (i k : ℕ) → k < i → (i == k) ≡ false
differs i k lt = by (i == k) refl
  where
    by : (b : Bool) → (i == k) ≡ b → b ≡ false
    by true e = absurd (let same = eqb-true i k e in omega (arith, same, lt))
    by false e = refl

not_below : (i n : ℕ) → n ≤ i → nat_lt i n ≡ false
not_below i n le = by (nat_lt i n) refl
  where
    by : (b : Bool) → nat_lt i n ≡ b → b ≡ false
    by true e = absurd (let lt = ltb-true i n e in omega (arith, lt, le))
    by false e = refl

below : (i n : ℕ) → i < n → nat_lt i n ≡ true
below i n lt = by (nat_lt i n) refl
  where
    by : (b : Bool) → nat_lt i n ≡ b → b ≡ true
    by true e = refl
    by false e = absurd (let not = ltb-false i n e in omega (arith, not, lt))

-- What is inside a group is at the indexes after it.
inside_first : (k site number : ℕ) (what : GroupKind) (inside rest : GroupForest)
    → inside_at k k (Group site number what inside rest) ≡ inside
inside_first k site number what inside rest =
    ap (λ b. if b then inside else (if nat_lt k ((k + 1) + how_many inside) then inside_at k (k + 1) inside
    else inside_at k ((k + 1) + how_many inside) rest)) (eq-eqb k k refl)

inside_deeper : (j k site number : ℕ) (what : GroupKind) (inside rest : GroupForest) → k < j
    → j < (k + 1) + how_many inside
    → inside_at j k (Group site number what inside rest) ≡ inside_at j (k + 1) inside
inside_deeper j k site number what inside rest after lt =
    ap (λ b. if b then inside else (if nat_lt j ((k + 1) + how_many inside) then inside_at j (k + 1) inside
    else inside_at j ((k + 1) + how_many inside) rest)) (differs j k after)
    ∙ ap (λ b. if b then inside_at j (k + 1) inside else inside_at j ((k + 1) + how_many inside) rest)
    (below j ((k + 1) + how_many inside) lt)

inside_later : (j k site number : ℕ) (what : GroupKind) (inside rest : GroupForest) → (k + 1) + how_many inside ≤ j
    → inside_at j k (Group site number what inside rest) ≡ inside_at j ((k + 1) + how_many inside) rest
inside_later j k site number what inside rest le =
    ap (λ b. if b then inside else (if nat_lt j ((k + 1) + how_many inside) then inside_at j (k + 1) inside
    else inside_at j ((k + 1) + how_many inside) rest)) (differs j k (omega (arith, le)))
    ∙ ap (λ b. if b then inside_at j (k + 1) inside else inside_at j ((k + 1) + how_many inside) rest)
    (not_below j ((k + 1) + how_many inside) le)

-- The first group of a forest.
first_matched : (k site number : ℕ) (what : GroupKind) (inside rest : GroupForest)
    → IsGroupAt k (Group site number what inside rest) k
    (record { number = k; what = what; inside = (indexed_forest (k + 1) inside).0 })
first_matched k site number what inside rest =
    let is = inside_first k site number what inside rest in
    let count : how_many (inside_at k k (Group site number what inside rest)) ≡ how_many inside = ap how_many is in
    record {
      number = refl;
      first = omega arith;
      last = omega (arith, count);
      inside = ap (λ t. (indexed_forest (k + 1) t).0) (sym is);
      deeper = λ j after lt. inside_deeper j k site number what inside rest after (omega (arith, lt, count))
          ∙ ap (λ t. inside_at j (k + 1) t) (sym is);
    }

-- A group among the later siblings of a forest's first group.
later_matched : (k site number : ℕ) (what : GroupKind) (inside rest : GroupForest) (i : ℕ) (f : Found)
    → IsGroupAt ((k + 1) + how_many inside) rest i f → IsGroupAt k (Group site number what inside rest) i f
later_matched k site number what inside rest i f h =
    let first = h.first in
    let last = h.last in
    let is = inside_later i k site number what inside rest first in
    let count : how_many (inside_at i k (Group site number what inside rest))
    ≡ how_many (inside_at i ((k + 1) + how_many inside) rest) = ap how_many is in
    record {
      number = h.number;
      first = omega (arith, first);
      last = omega (arith, last, count);
      inside = h.inside ∙ ap (λ t. (indexed_forest (i + 1) t).0) (sym is);
      deeper = λ j after lt.
          inside_later j k site number what inside rest (omega (arith, first, after))
          ∙ h.deeper j after (omega (arith, lt, count)) ∙ ap (λ t. inside_at j (i + 1) t) (sym is);
    }

lifted : (k site number : ℕ) (what : GroupKind) (inside rest : GroupForest) (r : Option ℕ) (o : Option Found)
    → IsMatched ((k + 1) + how_many inside) rest r o → IsMatched k (Group site number what inside rest) r o
lifted k site number what inside rest None None h = tt
lifted k site number what inside rest None (Some f) h = h
lifted k site number what inside rest (Some i) None h = h
lifted k site number what inside rest (Some i) (Some f) h = later_matched k site number what inside rest i f h

-- A read is no group.
after_read : (k x : ℕ) (rest : GroupForest) (r : Option ℕ) (o : Option Found) → IsMatched k rest r o
    → IsMatched k (Read x rest) r o
after_read k x rest None None h = tt
after_read k x rest None (Some f) h = h
after_read k x rest (Some i) None h = h
after_read k x rest (Some i) (Some f) h =
    record { number = h.number; first = h.first; last = h.last; inside = h.inside; deeper = h.deeper }

-- The nth of the siblings with a key is the one that a lookup finds.
pub matched : (s : GroupKey) (k n : ℕ) (t : GroupForest)
    → IsMatched k t (slice_get (key_indexes s k t) n) (matching_sibling s n (indexed_forest k t).0)
matched s k n End = tt
matched s k n (Read x rest) = after_read k x rest _ _ (matched s k n rest)
matched s k n (Group site number what inside rest) =
    by (same_sibling (sibling site what) s) n
    (λ m. subst (λ x. IsMatched ((k + 1) + how_many inside) rest
    (slice_get (key_indexes s ((k + 1) + how_many inside) rest) m) (matching_sibling s m (indexed_forest x rest).0))
    (sym (index_after (k + 1) inside)) (matched s ((k + 1) + how_many inside) m rest))
  where
    next : ℕ
    next = (k + 1) + how_many inside

    after : ℕ
    after = (indexed_forest (k + 1) inside).1

    by : (b : Bool) (n : ℕ)
        → ((m : ℕ) → IsMatched ((k + 1) + how_many inside) rest
        (slice_get (key_indexes s ((k + 1) + how_many inside) rest) m)
        (matching_sibling s m (indexed_forest (indexed_forest (k + 1) inside).1 rest).0))
        → IsMatched k (Group site number what inside rest)
        (slice_get (if b then k ∷ key_indexes s ((k + 1) + how_many inside) rest
        else key_indexes s ((k + 1) + how_many inside) rest) n)
        (if b then nth n (record { number = k; what = what; inside = (indexed_forest (k + 1) inside).0 })
        (λ m. matching_sibling s m (indexed_forest (indexed_forest (k + 1) inside).1 rest).0)
        else matching_sibling s n (indexed_forest (indexed_forest (k + 1) inside).1 rest).0)
    by true zero later = first_matched k site number what inside rest
    by true (suc m) later = lifted k site number what inside rest _ _ (later m)
    by false m later = lifted k site number what inside rest _ _ (later m)

pub found_number : (k : ℕ) (t : GroupForest) (r : Option ℕ) (o : Option Found) → IsMatched k t r o → number_found o ≡ r
found_number k t None None h = refl
found_number k t None (Some f) h = absurd h
found_number k t (Some i) None h = absurd h
found_number k t (Some i) (Some f) h = ap Some h.number

-- The forest t is the part of the old forest from index k on.
abbrev pub IsPlaced : GroupForest → ℕ → GroupForest → Type 0
IsPlaced old k t = (j : ℕ) → k ≤ j → j < k + how_many t → inside_at j 0 old ≡ inside_at j k t

-- What is inside the group that was found, as a level and as a forest.
pub record HasInside (old : GroupForest) (r : Option ℕ) (o : Option Found) : Type 0 where
  pub from : ℕ
  pub forest : GroupForest
  pub placed : IsPlaced old from forest
  pub level : inner_level old r ≡ level_of from forest
  pub inside : inside_of o ≡ (indexed_forest from forest).0

pub found_inside : (old : GroupForest) (k : ℕ) (t : GroupForest) (r : Option ℕ) (o : Option Found) → IsPlaced old k t
    → IsMatched k t r o → HasInside old r o
found_inside old k t None None placed h = record {
  from = 0;
  forest = End;
  placed = λ j le lt. absurd (omega (arith, lt));
  level = refl;
  inside = refl;
}
found_inside old k t None (Some f) placed h = absurd h
found_inside old k t (Some i) None placed h = absurd h
found_inside old k t (Some i) (Some f) placed h =
    let first = h.first in
    let last = h.last in
    let is : inside_at i 0 old ≡ inside_at i k t = placed i first (omega (arith, last)) in
    let count : how_many (inside_at i 0 old) ≡ how_many (inside_at i k t) = ap how_many is in
    record {
      from = i + 1;
      forest = inside_at i 0 old;
      placed = λ j le lt.
          placed j (omega (arith, first, le)) (omega (arith, lt, count, last))
          ∙ h.deeper j (omega (arith, le)) (omega (arith, lt, count)) ∙ ap (λ u. inside_at j (i + 1) u) (sym is);
      level = refl;
      inside = h.inside ∙ ap (λ u. (indexed_forest (i + 1) u).0) (sym is);
    }
