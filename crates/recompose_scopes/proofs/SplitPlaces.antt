-- Ascending places that an index splits at a bound.
use Rattle.std.proofs.Common.{◌≡◌, inl, inr, ◌<◌, ◌≤◌, ◌-◌, ℕ, Bool, true, false, ltb, leb, List, length, get_or, sym, ◌∙◌, arith}
use Rattle.std.proofs.lemmas.Bool.{cases_lt}
use Rattle.std.proofs.lemmas.Bool.{ltb-false}
use borrow.Author.Tests.{ltb-true, leb-true}
use Rattle.std.specs.List.Sorted.{IsNonDecreasing, IsPartitionPoint}
use Rattle.rt_values.specs.Maps.{contains}
use Rattle.recompose_scopes.specs.Building.{Splits}
use Rattle.recompose_scopes.proofs.Members.{is_none, index_of}

split_places : (places : List ℕ) (k at : ℕ) → IsNonDecreasing places → k ≤ length places
    → (0 < k → get_or places (k - 1) 0 < at) → (k < length places → at ≤ get_or places k 0) → Splits places k at
split_places places k at ascending inside before after = record {
  inside = inside;
  after = after;
  none = λ i high low. is_none (contains i places) (λ has.
      let found = index_of i places has in
      let here = found.inside in
      let is = found.is in
      elim (cases_lt found.index k) [
        | inl less ↦
            let order = ascending found.index (k - 1) 0 (omega (arith, less)) (omega (arith, inside, less)) in
            let bound = before (omega (arith, less)) in
            absurd (omega (arith, is, order, bound, high))
        | inr more ↦
            let order = ascending k found.index 0 more here in
            let bound = low (omega (arith, more, here)) in
            absurd (omega (arith, is, order, bound))
      ]);
}

-- The tests of `splits`, in order.

pub split_at_start : (places : List ℕ) (k at : ℕ) → IsNonDecreasing places → k ≤ length places → k ≡ 0
    → (k < length places → at ≤ get_or places k 0) → Splits places k at
split_at_start places k at ascending inside start =
    split_places places k at ascending inside (λ some. absurd (omega (arith, start, some)))

pub split_after : (places : List ℕ) (k at : ℕ) (answer : Bool) → IsNonDecreasing places → k ≤ length places
    → answer ≡ ltb (get_or places (k - 1) 0) at → answer ≡ true → (k < length places → at ≤ get_or places k 0)
    → Splits places k at
split_after places k at answer ascending inside is holds =
    let less = ltb-true (get_or places (k - 1) 0) at (sym is ∙ holds) in
    split_places places k at ascending inside (λ some. less)

pub no_split : (places : List ℕ) (k at : ℕ) (answer : Bool) → length places < k → answer ≡ leb k (length places)
    → answer ≡ true → Splits places k at
no_split places k at answer beyond is holds =
    let inside = leb-true k (length places) (sym is ∙ holds) in absurd (omega (arith, beyond, inside))

-- The index at which a binary search splits the places.
pub split_searched : (places : List ℕ) (k at : ℕ) → IsNonDecreasing places → k ≤ length places
    → IsPartitionPoint (λ y. ltb y at ≡ true) (λ y. ltb y at ≡ false) places k → Splits places k at
split_searched places k at ascending inside point = split_places places k at ascending inside
    (λ some. ltb-true (get_or places (k - 1) 0) at (point.0 (k - 1) 0 (omega arith) (omega (arith, some))))
    (λ more. ltb-false (get_or places k 0) at (point.1 k 0 (omega arith) more))
