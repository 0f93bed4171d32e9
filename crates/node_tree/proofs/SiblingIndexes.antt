-- The indexes of siblings whose numbers ascend.
use Rattle.std.proofs.Common.{◌≡◌, ℕ, zero, suc, ◌+◌, ◌≤◌, ◌<◌, ◌==◌, inl, inr, Bool, true, false, if◌then◌else◌, List, [], ◌∷◌, length, get_or, Option, Some, None, refl, ap, sym, ◌∙◌, arith}
use Rattle.std.specs.Prelude.{slice_get}
use Rattle.std.specs.List.{IsAllAdjacentAnswer}
use Rattle.std.specs.List.Sorted.{IsNonDecreasingBy, IsPartitionedBy, IsPartitionPoint}
use Rattle.std.proofs.Math.Dec.{ltb}
use Rattle.std.proofs.lemmas.Bool.{eq-eqb, eqb-true, ltb-true, ltb-false, cases_order, true≢false, false≢true, cases_Bool}
use Rattle.std.proofs.lemmas.List.Sorted.{IsNonDecreasingBy-from_all_adjacent, IsPartitionedBy-ltb}
use Rattle.node_tree.specs.declared.siblings.Sibling.{Sibling}
use Rattle.node_tree.specs.SiblingLists.{last_index, index_in, is_numbered, Ascend}

-- A number that no sibling has.
none_numbered : (ss : List Sibling) (at number : ℕ) (last : Option ℕ)
    → ((k : ℕ) → is_numbered number (slice_get ss k) ≡ false) → last_index number at last ss ≡ last
none_numbered [] at number last none = refl
none_numbered (s ∷ ss) at number last none =
    ap (λ (b : Bool). last_index number (at + 1) (if b then Some at else last) ss) (none 0)
    ∙ none_numbered ss (at + 1) number last (λ k. none (suc k))

-- The last sibling with a number.
last_numbered : (ss : List Sibling) (at number i : ℕ) (last : Option ℕ)
    → is_numbered number (slice_get ss i) ≡ true
    → ((k : ℕ) → i < k → is_numbered number (slice_get ss k) ≡ false) → last_index number at last ss ≡ Some (at + i)
last_numbered [] at number i last is none = absurd (false≢true is)
last_numbered (s ∷ ss) at number zero last is none =
    ap (λ (b : Bool). last_index number (at + 1) (if b then Some at else last) ss) is
    ∙ none_numbered ss (at + 1) number (Some at) (λ k. none (suc k) (omega arith))
    ∙ ap (λ n. Some n) (let e : at ≡ at + 0 = omega arith in e)
last_numbered (s ∷ ss) at number (suc i) last is none =
    last_numbered ss (at + 1) number i (if s.number == number then Some at else last) is
    (λ k after. none (suc k) (omega arith))
    ∙ ap (λ n. Some n) (let e : at + 1 + i ≡ at + suc i = omega arith in e)

-- A sibling with a number, by its index.
numbered_at : (ss : List Sibling) (number i : ℕ) (d : Sibling) → is_numbered number (slice_get ss i) ≡ true
    → (i < length ss) × ((get_or ss i d).number ≡ number)
numbered_at [] number i d is = absurd (false≢true is)
numbered_at (s ∷ ss) number zero d is = (omega arith, eqb-true s.number number is)
numbered_at (s ∷ ss) number (suc i) d is =
    let rest = numbered_at ss number i d is in (omega (arith, rest.0), rest.1)

numbered_by : (ss : List Sibling) (number i : ℕ) (d : Sibling) → i < length ss → (get_or ss i d).number ≡ number
    → is_numbered number (slice_get ss i) ≡ true
numbered_by [] number i d below same = absurd (omega arith)
numbered_by (s ∷ ss) number zero d below same = eq-eqb s.number number same
numbered_by (s ∷ ss) number (suc i) d below same = numbered_by ss number i d (omega arith) same

not_numbered : (ss : List Sibling) (number i : ℕ) (d : Sibling)
    → (i < length ss → (get_or ss i d).number ≡ number → ⊥) → is_numbered number (slice_get ss i) ≡ false
not_numbered ss number i d apart = elim (cases_Bool (is_numbered number (slice_get ss i))) [
  | inl is ↦ let there = numbered_at ss number i d is in absurd (apart there.0 there.1)
  | inr is ↦ is
]

-- No number is greater than those of later siblings.
rising : (ss : List Sibling) → Ascend ss → IsNonDecreasingBy (λ (s : Sibling). s.number) ss
rising ss up = IsNonDecreasingBy-from_all_adjacent (λ (s : Sibling). s.number) ss
    (λ k d h. let less = up k d h in omega (arith, less))

-- The number of a sibling is less than those of later ones.
less_later : (ss : List Sibling) (i j : ℕ) (d : Sibling) → Ascend ss → i < j → j < length ss
    → (get_or ss i d).number < (get_or ss j d).number
less_later ss i j d up before below =
    let next : (get_or ss i d).number < (get_or ss (i + 1) d).number = up i d (omega arith) in
    let rest : (get_or ss (i + 1) d).number ≤ (get_or ss j d).number = rising ss up (i + 1) j d (omega arith) below in
    omega (arith, next, rest)

-- The numbers ascend where each is tested as less than the next one.
pub ascend_by : (ss : List Sibling) (r : Bool)
    → IsAllAdjacentAnswer (λ (x y : Sibling) (b : Bool). b ≡ ltb x.number y.number) ss r → r ≡ true → Ascend ss
ascend_by ss true pairs is = λ k d h. ltb-true _ _ (sym (pairs k d h))
ascend_by ss false pairs is = absurd (false≢true is)

-- The siblings with smaller numbers come first.
pub parted_by : (ss : List Sibling) (number : ℕ) → Ascend ss
    → IsPartitionedBy (λ (s : Sibling). ltb s.number number) ss
parted_by ss number up = IsPartitionedBy-ltb (λ (s : Sibling). s.number) ss number (rising ss up)

no_sibling : Sibling
no_sibling = record { number = 0; start = 0; end = 0 }

-- A sibling with the number is the only one where the numbers ascend.
pub only_numbered : (ss : List Sibling) (number i : ℕ) → Ascend ss → is_numbered number (slice_get ss i) ≡ true
    → Some i ≡ index_in number ss
only_numbered ss number i up is =
    let here = numbered_at ss number i no_sibling is in
    let only : last_index number 0 None ss ≡ Some (0 + i) = last_numbered ss 0 number i None is (λ k after.
    not_numbered ss number k no_sibling (λ below same.
    let less = less_later ss i k no_sibling up after below in absurd (omega (arith, less, same, here.1)))) in
    ap (λ n. Some n) (let e : i ≡ 0 + i = omega arith in e) ∙ sym only

-- No sibling has the number if the one after all smaller numbers has another.
pub not_numbered_at : (ss : List Sibling) (number p : ℕ) → Ascend ss
    → IsPartitionPoint (λ (s : Sibling). ltb s.number number ≡ true) (λ s. ltb s.number number ≡ false) ss p
    → is_numbered number (slice_get ss p) ≡ false → None ≡ index_in number ss
not_numbered_at ss number p up parted isnt = sym (none_numbered ss 0 number None (λ k.
    not_numbered ss number k no_sibling (λ below same. elim (cases_order k p) [
      | inl here ↦ true≢false (sym (numbered_by ss number p no_sibling (omega arith)
          (ap (λ n. (get_or ss n no_sibling).number) (sym here) ∙ same)) ∙ isnt)
      | inr apart ↦ elim apart [
        | inl before ↦
            let less = ltb-true _ _ (parted.0 k no_sibling (omega arith) before) in absurd (omega (arith, less, same))
        | inr after ↦
            let more = ltb-false _ _ (parted.1 p no_sibling (omega arith) (omega arith)) in
            let less = less_later ss p k no_sibling up after below in absurd (omega (arith, less, more, same))
      ]
    ])))
