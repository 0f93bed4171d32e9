-- The highest valid id among the sorted ids of a chain.
use Rattle.std.proofs.Common.{◌≡◌, ℕ, zero, suc, ◌<◌, ◌≤◌, ◌+◌, ◌-◌, List, [], ◌∷◌, ◌++◌, length, refl, sym, ap, subst, ◌∙◌, Option, Some, None, Bool, true, false, cond, arith, ◌⊎◌, inl, inr}
use Rattle.std.proofs.Math.ListN.{get_or-append}
use Rattle.std.proofs.Math.Seq.{get_or-append_seam}
use Rattle.std.proofs.lemmas.Bool.{cases_lt}
use Rattle.std.proofs.lemmas.Bool.Decides.{Decides-eqb, eqb_tells}
use Rattle.std.specs.Prelude.{slice_index_or}
use Rattle.rt_values.specs.Maps.{contains}
use Rattle.snap_ids.specs.IdLists.{IsRising, with_id}
use Rattle.snap_ids.proofs.Booleans.{true_or_false, not_both, and_seen, and_alone}
use Rattle.snap_ids.proofs.IdLists.{rising_at, contains-at, rising-with_id}
use Rattle.snap_api.specs.World.{World}
use Rattle.snap_laws.specs.Represents.{WorldParts, Represents}
use Rattle.snap_nested.specs.Ids.{Ids, IsSound, valid_for_base}
use Rattle.snap_nested.specs.Members.{member, ids_of}
use Rattle.snap_nested.specs.declared.family.Member.{Member}
use Rattle.snap_nested.proofs.Needed.{set_keeps, set_has, set_only}
use Rattle.snap_nested.proofs.Open.{index_of}
use Rattle.snap_records.specs.Edits.{readable, is_valid_except}
use Rattle.snap_records.specs.Records.{Rec, Has, IsReader}
use Rattle.snap_records.proofs.Readable.{Finds, finds}
use Rattle.snap_reuse.specs.Readers.{has_id}
use Rattle.snap_world.specs.Sorted.{AreIdsOf, AreRecordsOwned, AreOwned, AreOwnIn, IsLastSeen, IsHighest, IsSearched, AreSearched, IsFound, no_search}
use Rattle.snap_world.specs.declared.searched_ids.Searched.{Searched}

-- If no id of the list is valid, 0 is the highest.
pub highest_none : (sees : ℕ → Bool) (ids : List ℕ) → IsLastSeen sees ids 0 → IsHighest sees ids 0
highest_none sees ids last = record {
  top = λ j here seen.
      let p = index_of j ids here in
      absurd (not_both (sees j) seen (sym (ap sees p.2) ∙ last.none p.0 (omega arith) p.1));
  there = λ positive. absurd (omega (arith, positive));
}

-- The last of the first ids is the highest, if no later id is valid.
pub highest_last : (sees : ℕ → Bool) (ids : List ℕ) (at : ℕ) → IsRising ids → IsLastSeen sees ids at → 0 < at
    → IsHighest sees ids (slice_index_or ids (at - 1) 0)
highest_last sees ids at rising last some =
    let within : at - 1 < length ids = omega (arith, some, last.within) in
    record {
      top = λ j here seen.
          let p = index_of j ids here in
          elim (cases_lt p.0 at) [
            | inr past ↦ absurd (not_both (sees j) seen (sym (ap sees p.2) ∙ last.none p.0 past p.1))
            | inl low ↦ elim (eqb_tells p.0 (at - 1)) [
              | inl e ↦ omega (arith, p.2, ap (λ (k : ℕ). slice_index_or ids k 0) e.1)
              | inr e ↦ omega (arith, p.2, rising_at ids p.0 (at - 1) rising (omega (arith, low, e.1, some)) within)
            ]
          ];
      there = λ positive. (contains-at ids (at - 1) within, last.seen (at - 1) (omega (arith, some)));
    }

-- Every id is seen by a reader that sees all.
pub all_seen : (ids : List ℕ) → IsLastSeen (λ i. true) ids (length ids)
all_seen ids = record {
  within = omega arith;
  none = λ j past within. absurd (omega (arith, past, within));
  seen = λ k is. refl;
}

-- The highest id for the base of a member is that for the member's own ids, current id and invalid ids.
pub for_member : (ms : List Member) (n : ℕ) (own invalid ids : List ℕ) (id high : ℕ) → own ≡ (member ms n).ids
    → id ≡ (member ms n).id → invalid ≡ (member ms n).invalid → IsHighest (is_valid_except own id invalid) ids high
    → IsHighest (valid_for_base (ids_of ms) n) ids high
for_member ms n own invalid ids id high own_is id_is invalid_is h =
    let m : Member = member ms n in
    subst (λ (l : List ℕ). IsHighest (is_valid_except m.ids m.id l) ids high) invalid_is
    (subst (λ (k : ℕ). IsHighest (is_valid_except m.ids k invalid) ids high) id_is
    (subst (λ (l : List ℕ). IsHighest (is_valid_except l id invalid) ids high) own_is h))

-- A child's base sees what its parent's base sees, and the parent's own ids that are valid for the child.
module _ {f : Ids} {handed : ℕ} {order own : List ℕ} {n a b m : ℕ} (sound : IsSound f handed)
    (live : f.live n ≡ true) (inner : 0 < n) (up : f.live (f.parent n) ≡ true) (reader : IsReader (valid_for_base f n))
    (owned : AreOwned f order) (parent : AreOwnIn (f.owns (f.parent n)) order own)
    (of_own : IsHighest (valid_for_base f n) own a) (of_base : IsHighest (valid_for_base f (f.parent n)) order b)
    (first : a ≤ m) (second : b ≤ m) (one : (m ≡ a) ⊎ (m ≡ b)) where
  same : (i : ℕ) → contains i order ≡ true → 0 < i → f.owns (f.parent n) i ≡ false
      → valid_for_base f n i ≡ valid_for_base f (f.parent n) i
  same i here positive other =
      let k = owned i here positive in
      sound.child n k.0 i live inner up k.1 other
      ∙ sym (and_alone (f.sees (f.parent n) i) (f.owns (f.parent n) i) other)

  pub base_under : IsHighest (valid_for_base f n) order m
  base_under = record {
    top = λ j here seen. elim (true_or_false (f.owns (f.parent n) j)) [
      | inl o ↦ omega (arith, of_own.top j (parent.all j here o) seen, first)
      | inr o ↦ omega (arith, of_base.top j here (sym (same j here (reader j seen) o) ∙ seen), second)
    ];
    there = λ positive. elim one [
      | inl e ↦
          let p = of_own.there (omega (arith, e, positive)) in
          let q = parent.of a p.0 in
          subst (λ (i : ℕ). (contains i order ≡ true) × (valid_for_base f n i ≡ true)) (sym e) (q.0, p.1)
      | inr e ↦
          let some : 0 < b = omega (arith, e, positive) in
          let p = of_base.there some in
          let q = and_seen (f.sees (f.parent n) b) (f.owns (f.parent n) b) p.1 in
          subst (λ (i : ℕ). (contains i order ≡ true) × (valid_for_base f n i ≡ true)) (sym e)
          (p.0, same b p.0 some q.1 ∙ p.1)
    ];
  }

-- A snapshot sees its own ids, and what its base sees.
module _ {f : Ids} {handed : ℕ} {order own : List ℕ} {n a b m : ℕ} (sound : IsSound f handed)
    (live : f.live n ≡ true) (mine : AreOwnIn (f.owns n) order own) (last : IsHighest (λ i. true) own a)
    (of_base : IsHighest (valid_for_base f n) order b) (first : a ≤ m) (second : b ≤ m) (one : (m ≡ a) ⊎ (m ≡ b)) where
  pub view_over : IsHighest (f.sees n) order m
  view_over = record {
    top = λ j here seen. elim (true_or_false (f.owns n j)) [
      | inl o ↦ omega (arith, last.top j (mine.all j here o) refl, first)
      | inr o ↦ omega (arith, of_base.top j here (and_alone (f.sees n j) (f.owns n j) o ∙ seen), second)
    ];
    there = λ positive. elim one [
      | inl e ↦
          let p = mine.of a (last.there (omega (arith, e, positive))).0 in
          subst (λ (i : ℕ). (contains i order ≡ true) × (f.sees n i ≡ true)) (sym e)
          (p.0, sound.own_seen n a live p.1)
      | inr e ↦
          let p = of_base.there (omega (arith, e, positive)) in
          subst (λ (i : ℕ). (contains i order ≡ true) × (f.sees n i ≡ true)) (sym e)
          (p.0, (and_seen (f.sees n b) (f.owns n b) p.1).0)
    ];
  }

module _ {sees : ℕ → Bool} {c : List Rec} {order : List ℕ} {m : ℕ} (reader : IsReader sees) (ids : AreIdsOf c order)
    (high : IsHighest sees order m) where
  -- A record that is read has the highest valid id.
  read_id : (q : Rec) → Has c q → sees q.id ≡ true → ((p : Rec) → Has c p → sees p.id ≡ true → p.id ≤ q.id)
      → (0 < m) × (m ≡ q.id)
  read_id q there seen top =
      let low : q.id ≤ m = high.top q.id (ids.all q there) seen in
      let some : 0 < m = omega (arith, reader q.id seen, low) in
      let p = high.there some in
      let held = ids.of m p.0 some in
      (some, omega (arith, low, held.2, top held.0 held.1 (ap sees held.2 ∙ p.1)))

  -- The id of the readable record is the highest valid one.
  pub found_highest : (i : ℕ) → has_id i (readable sees c) ≡ true → (0 < m) × (m ≡ i)
  found_highest i h = of (readable sees c) (finds sees c) h where
    of : (o : Option Rec) → Finds sees c o → has_id i o ≡ true → (0 < m) × (m ≡ i)
    of None f h = absurd cc
    of (Some q) f h =
        let p = read_id q f.1 f.2 f.3 in
        (p.0, p.1 ∙ (Decides-eqb q.id i).0 h)

  -- The highest valid id is that of the readable record.
  pub highest_found : 0 < m → has_id m (readable sees c) ≡ true
  highest_found some = of (readable sees c) (finds sees c) where
    held : (p : Rec) × (Has c p) × (p.id ≡ m)
    held = ids.of m (high.there some).0 some

    of : (o : Option Rec) → Finds sees c o → has_id m o ≡ true
    of None f = absurd (not_both (sees held.0.id) (ap sees held.2 ∙ (high.there some).1) (f held.0 held.1))
    of (Some q) f = (Decides-eqb q.id m).1 (sym (read_id q f.1 f.2 f.3).1)

-- Snapshots own the ids of the records that represent a plain world.
pub owned_records : {P : Type 0} {h : WorldParts P} {w : World P} → Represents h w → (x : ℕ)
    → AreRecordsOwned h.ids (h.chains x)
owned_records {P} {h} {w} s x p there positive =
    let k = s.kept.chained.known x p there positive in
    (k.name, k.owned)

-- Snapshots own the sorted ids of records whose ids snapshots own.
pub owned_ids : (f : Ids) (c : List Rec) (order : List ℕ) → AreIdsOf c order → AreRecordsOwned f c → AreOwned f order
owned_ids f c order ids owned i here positive =
    let p = ids.of i here positive in
    let k = owned p.0 p.1 (omega (arith, p.2, positive)) in
    (k.0, subst (λ (j : ℕ). f.owns k.0 j ≡ true) p.2 k.1)

-- What the search among the sorted ids of a chain found for a snapshot.
pub found_in : (f : Ids) (c : List Rec) (order : List ℕ) (n : ℕ) (s : Searched) → AreIdsOf c order
    → AreRecordsOwned f c → IsSearched f order n s → IsFound f c n s
found_in f c order n s ids owned found = record {
  order = order;
  ids = ids;
  owned = owned_ids f c order ids owned;
  found = found;
}

pub more_by_one : (xs : List Searched) (x : Searched) → length (xs ++ x ∷ []) ≡ length xs + 1
more_by_one [] x = omega arith
more_by_one (y ∷ xs) x = omega (arith, more_by_one xs x)

-- What the search found for a live snapshot.
pub searched_at : (f : Ids) (order names : List ℕ) (found : List Searched) (n at : ℕ) (s : Searched)
    → AreSearched f order names found → at < length found → s ≡ slice_index_or found at s
    → slice_index_or names at 0 ≡ n → f.live n ≡ true → IsSearched f order n s
searched_at f order names found n at s searched within there is live =
    subst (λ (t : Searched). IsSearched f order n t) (any_default found at within ∙ sym there)
    (subst (λ (k : ℕ). IsSearched f order k (slice_index_or found at no_search)) is
    (searched at within (subst (λ (k : ℕ). f.live k ≡ true) (sym is) live))) where
      any_default : (xs : List Searched) (i : ℕ) → i < length xs → slice_index_or xs i no_search ≡ slice_index_or xs i s
      any_default [] i h = absurd (omega (arith, h))
      any_default (x ∷ xs) zero h = refl
      any_default (x ∷ xs) (suc i) h = any_default xs i (omega (arith, h))

-- The search of one more name.
pub searched_more : (f : Ids) (order names : List ℕ) (found : List Searched) (next : Searched)
    → AreSearched f order names found → (f.live (slice_index_or names (length found) 0) ≡ true
    → IsSearched f order (slice_index_or names (length found) 0) next) → AreSearched f order names (found ++ next ∷ [])
searched_more f order names found next before last at within live = elim (eqb_tells at (length found)) [
  | inl e ↦ subst (λ (k : ℕ). f.live (slice_index_or names k 0) ≡ true
      → IsSearched f order (slice_index_or names k 0) (slice_index_or (found ++ next ∷ []) k no_search)) (sym e.1)
      (λ h. subst (λ (s : Searched). IsSearched f order (slice_index_or names (length found) 0) s)
      (sym (get_or-append_seam found next [] no_search)) (last h)) live
  | inr e ↦
      let low : at < length found = omega (arith, within, more_by_one found next, e.1) in
      subst (λ (s : Searched). IsSearched f order (slice_index_or names at 0) s)
      (sym (get_or-append found (next ∷ []) no_search at low)) (before at low live)
]

-- The list with an id that `order` has, and else the list.
abbrev pub with_common : List ℕ → ℕ → List ℕ → List ℕ
with_common order x xs = cond (contains x order) (with_id x xs) xs

pub common_rising : (order : List ℕ) (x : ℕ) (xs : List ℕ) → IsRising xs → IsRising (with_common order x xs)
common_rising order x xs r = of (contains x order) where
  of : (b : Bool) → IsRising (cond b (with_id x xs) xs)
  of true = rising-with_id x xs r
  of false = r

pub common_keeps : (order : List ℕ) (i x : ℕ) (xs : List ℕ) → contains i xs ≡ true
    → contains i (with_common order x xs) ≡ true
common_keeps order i x xs h = of (contains x order) where
  of : (b : Bool) → contains i (cond b (with_id x xs) xs) ≡ true
  of true = set_keeps i x xs (with_id x xs) refl h
  of false = h

pub common_has : (order : List ℕ) (x : ℕ) (xs : List ℕ) → contains x order ≡ true
    → contains x (with_common order x xs) ≡ true
common_has order x xs here = of (contains x order) here where
  of : (b : Bool) → b ≡ true → contains x (cond b (with_id x xs) xs) ≡ true
  of true h = set_has x xs (with_id x xs) refl
  of false h = absurd cc

pub common_only : (order : List ℕ) (i x : ℕ) (xs : List ℕ) → contains i (with_common order x xs) ≡ true
    → (contains i xs ≡ true) ⊎ ((i ≡ x) × (contains x order ≡ true))
common_only order i x xs h = of (contains x order) refl h where
  of : (b : Bool) → contains x order ≡ b → contains i (cond b (with_id x xs) xs) ≡ true
      → (contains i xs ≡ true) ⊎ ((i ≡ x) × (contains x order ≡ true))
  of true is k = elim (set_only i x xs (with_id x xs) refl k) [ inl e ↦ inl e | inr e ↦ inr (e, is) ]
  of false is k = inl k

-- An id that `order` has is in the list that it was added to.
pub common_set : (order : List ℕ) (x i : ℕ) (xs : List ℕ) → x ≡ i → contains i order ≡ true
    → contains i (with_common order x xs) ≡ true
common_set order x i xs same there = subst (λ (n : ℕ). contains n order ≡ true → contains n (with_common order x xs) ≡ true)
    same (common_has order x xs) there
