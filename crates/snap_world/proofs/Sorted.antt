-- The search for the readable record in the sorted ids of a chain.
use Rattle.std.proofs.Common.{◌≡◌, ◌≢◌, ℕ, zero, suc, ◌<◌, ◌≤◌, ◌-◌, List, [], ◌∷◌, length, map, refl, sym, ap, ◌∙◌, Option, Some, Bool, true, false, not, ◌||◌, ◌&&◌, nat_lt, arith, ◌⊎◌, inl, inr, ◌==◌}
use Rattle.std.proofs.lemmas.Bool.Decides.{Decides-eqb, eqb_tells, leb_tells}
use Rattle.std.specs.Option.{option_map}
use Rattle.std.specs.Prelude.{slice_get, slice_index_or, nat_le}
use Rattle.rt_values.specs.Maps.{contains}
use Rattle.snap_ids.specs.IdLists.{is_valid}
use Rattle.snap_ids.proofs.Booleans.{not_both, not_true, and_seen}
use Rattle.snap_nested.specs.Ids.{valid_for_base}
use Rattle.snap_nested.specs.Members.{member, ids_of}
use Rattle.snap_nested.specs.declared.family.Member.{Member}
use Rattle.snap_nested.proofs.Members.{dated}
use Rattle.snap_records.specs.Chains.{keys_at, record_at, chain_of}
use Rattle.snap_records.specs.Records.{Rec, Has, IsReader}
use Rattle.snap_records.specs.declared.chains.Chains.{Chains}

-- No positive id is in the list with only 0.
pub only_zero : (i : ℕ) (order : List ℕ) → order ≡ 0 ∷ [] → contains i order ≡ true → 0 < i → ⊥
only_zero i order is h positive =
    omega (arith, (Decides-eqb 0 i).0 (first (0 == i) (sym (ap (λ (l : List ℕ). contains i l) is) ∙ h)), positive) where
      first : (b : Bool) → (b || false) ≡ true → b ≡ true
      first true h = refl
      first false h = absurd cc

-- The chain has a record with the id that stands at an index.
pub held_at : (chains : Chains) (x i id : ℕ) → i < length (keys_at chains x)
    → ((r : ℕ) → slice_get (keys_at chains x) i ≡ Some r → id ≡ (record_at chains r).id)
    → (p : Rec) × (Has (chain_of chains x) p) × (p.id ≡ id)
held_at chains x i id within is =
    let k = key_at (keys_at chains x) i within in
    (record_at chains k.0, record { at = i; is = record_there (keys_at chains x) i k.0 k.1 }, sym (is k.0 k.1)) where
      key_at : (keys : List ℕ) (i : ℕ) → i < length keys → (r : ℕ) × (slice_get keys i ≡ Some r)
      key_at [] i h = absurd (omega (arith, h))
      key_at (k ∷ keys) zero h = (k, refl)
      key_at (k ∷ keys) (suc i) h = key_at keys i (omega (arith, h))

      record_there : (keys : List ℕ) (i r : ℕ) → slice_get keys i ≡ Some r
          → slice_get (map (λ key. record_at chains key) keys) i ≡ Some (record_at chains r)
      record_there [] i r h = absurd cc
      record_there (k ∷ keys) zero r h = ap (λ (o : Option ℕ). option_map (λ key. record_at chains key) o) h
      record_there (k ∷ keys) (suc i) r h = record_there keys i r h

-- The last id of a reader's ids may be taken from the reader's valid ids.
pub step_down : (sees : ℕ → Bool) (order : List ℕ) (at : ℕ)
    → ((j : ℕ) → at ≤ j → j < length order → sees (slice_index_or order j 0) ≡ false) → 0 < at
    → ((k : ℕ) → suc k ≡ at → sees (slice_index_or order k 0) ≡ false) → (j : ℕ) → at - 1 ≤ j → j < length order
    → sees (slice_index_or order j 0) ≡ false
step_down sees order at none some hidden j low within = elim (eqb_tells (suc j) at) [
  | inl e ↦ hidden j e.1
  | inr e ↦ none j (omega (arith, low, e.1, some)) within
]

-- An id above the current one is not valid.
pub invalid_above : (id : ℕ) (invalid : List ℕ) (i : ℕ) → id < i → is_valid id invalid i ≡ false
invalid_above id invalid i above = by (nat_lt 0 i) (nat_le i id) (contains i invalid) (leb_tells i id) where
  by : (a b d : Bool) → ((b ≡ true) × (i ≤ id)) ⊎ ((b ≡ false) × (id < i)) → (a && (b && not d)) ≡ false
  by false b d h = refl
  by true false d h = refl
  by true true d (inl e) = absurd (omega (arith, e.1, above))
  by true true d (inr e) = absurd cc

-- Valid ids are positive.
pub view_reader : (ms : List Member) (n : ℕ) → (member ms n).is_live ≡ true → IsReader ((ids_of ms).sees n)
view_reader ms n live i h = ((dated ms).by n i live h).0

pub base_reader : (ms : List Member) (n : ℕ) → (member ms n).is_live ≡ true
    → IsReader (valid_for_base (ids_of ms) n)
base_reader ms n live i h = view_reader ms n live i (and_seen ((ids_of ms).sees n i) ((ids_of ms).owns n i) h).0

pub unlike : (n m : ℕ) → n ≢ m → (n == m) ≡ false
unlike n m other = not_true (n == m) (λ h. other ((Decides-eqb n m).0 h))

pub differs : (n m : ℕ) → (n == m) ≡ false → n ≢ m
differs n m h same = not_both (n == m) ((Decides-eqb n m).1 same) h

pub positive : (n : ℕ) → 0 < n → n ≢ 0
positive n inner same = omega (arith, inner, same)

pub above : (n : ℕ) → (n == 0) ≡ false → 0 < n
above zero h = absurd cc
above (suc n) h = omega arith
