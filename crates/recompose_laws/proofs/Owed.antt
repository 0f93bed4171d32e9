-- The objects whose stamps differ are all that changed.
use Rattle.std.proofs.Common.{ℕ, zero, suc, ◌+◌, ◌<◌, ◌==◌, List, [], ◌∷◌, ◌≡◌, inl, inr, refl, ap, ◌∙◌, sym, length, eq-eqb, Bool, true, false, if◌then◌else◌, Option, Some, None, slice_get, arith}
use Rattle.std.proofs.lemmas.Bool.{eqb-true, not-false as not_false}
use Rattle.std.proofs.lemmas.List.{get_or_past}
use Rattle.std.proofs.lemmas.Option.{get_or_from_slice_get, slice_get_within}
use Rattle.rt_values.specs.declared.maps.StampedValue.{StampedValue}
use Rattle.rt_values.specs.Maps.{Map, no_entry, entry_at, differs, differ_from, contains}
use Rattle.recompose_laws.specs.Refreshing.{OwedIsWhatChanged}
use Rattle.recompose_laws.proofs.Refreshes.{or_false, split_at}

first_out : (b : Bool) (k : ℕ) (rest : List ℕ) → contains k (if b then k ∷ rest else rest) ≡ false → b ≡ false
first_out true k rest c = let e = (or_false (k == k) (contains k rest) c).0 in let f = eq-eqb k k refl in absurd cc
first_out false k rest c = refl

rest_out : (b : Bool) (k j : ℕ) (rest : List ℕ) → contains j (if b then k ∷ rest else rest) ≡ false
    → contains j rest ≡ false
rest_out true k j rest c = (or_false (k == j) (contains j rest) c).1
rest_out false k j rest c = c

-- An object outside the list has its old stamp.
not_listed : (m : Map) (k x : ℕ) (now : List StampedValue) → x < length now
    → contains (k + x) (differ_from m k now) ≡ false → differs (slice_get m (k + x)) (entry_at now x) ≡ false
not_listed m k x [] h c = absurd (omega arith)
not_listed m k zero (e ∷ now) h c =
    let z : k + 0 ≡ k = omega arith in
    ap (λ j. differs (slice_get m j) e) z
    ∙ first_out (differs (slice_get m k) e) k (differ_from m (k + 1) now)
    (ap (λ j. contains j (differ_from m k (e ∷ now))) (sym z) ∙ c)
not_listed m k (suc x) (e ∷ now) h c =
    let z : k + suc x ≡ (k + 1) + x = omega arith in
    ap (λ j. differs (slice_get m j) (entry_at now x)) z
    ∙ not_listed m (k + 1) x now (omega arith)
    (rest_out (differs (slice_get m k) e) k ((k + 1) + x) (differ_from m (k + 1) now)
    (ap (λ j. contains j (differ_from m k (e ∷ now))) (sym z) ∙ c))

same_stamp : (o : Option StampedValue) (now : StampedValue) → differs o now ≡ false
    → (before : StampedValue) × (o ≡ Some before) × (before.stamp ≡ now.stamp)
same_stamp None now e = absurd cc
same_stamp (Some before) now e =
    (before, refl, eqb-true before.stamp now.stamp (not_false (before.stamp == now.stamp) e))

pub owed_is_what_changed : OwedIsWhatChanged
owed_is_what_changed m m' longer tell x out = elim (split_at x (length m')) [
  | inl h ↦
      let z : 0 + x ≡ x = omega arith in
      let quiet = ap (λ j. differs (slice_get m j) (entry_at m' x)) (sym z)
      ∙ not_listed m 0 x m' h (ap (λ j. contains j (differ_from m 0 m')) z ∙ out) in
      let before = same_stamp (slice_get m x) (entry_at m' x) quiet in
      tell x (slice_get_within m x before.0 before.1)
      (ap (λ (e : StampedValue). e.stamp) (get_or_from_slice_get m x before.0 no_entry before.1) ∙ before.2)
  | inr h ↦
      let here : entry_at m x ≡ no_entry = get_or_past m x no_entry (omega arith) in
      let there : entry_at m' x ≡ no_entry = get_or_past m' x no_entry h in
      ap (λ (e : StampedValue). e.value) (here ∙ sym there)
]
