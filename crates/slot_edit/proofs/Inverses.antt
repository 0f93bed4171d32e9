-- A list that has the new index of each old group below a bound.
use Rattle.std.proofs.Common.{◌≡◌, ◌≤◌, ◌<◌, ℕ, zero, suc, List, [], ◌∷◌, length, get_or, Option, None, refl, sym, ◌∙◌, arith}
use Rattle.std.proofs.Math.Logic.{◌⊎◌, inl, inr}
use Rattle.std.proofs.lemmas.Bool.{cases_lt}
use Rattle.slot_anchors.specs.Anchors.{first_from, AreInverse}

beyond : {X : Type 0} (xs : List X) (i : ℕ) (d : X) → length xs ≤ i → get_or xs i d ≡ d
beyond [] i d le = refl
beyond (x ∷ xs) zero d le = absurd (omega (arith, le))
beyond (x ∷ xs) (suc i) d le = beyond xs i d (omega (arith, le))

pub inverse_is : (olds news : List (Option ℕ)) (count : ℕ) → length news ≡ count
    → ((i : ℕ) → i < count → get_or news i None ≡ first_from 0 i olds)
    → ((i : ℕ) → count ≤ i → first_from 0 i olds ≡ None) → AreInverse olds news
inverse_is olds news count long below above i = by (cases_lt i count)
  where
    by : (i < count) ⊎ (count ≤ i) → get_or news i None ≡ first_from 0 i olds
    by (inl lt) = below i lt
    by (inr le) = beyond news i None (omega (arith, long, le)) ∙ sym (above i le)
