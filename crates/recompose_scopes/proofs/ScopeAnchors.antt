-- The anchors of scopes when one is added.
use Rattle.std.proofs.Common.{◌≡◌, ◌⊎◌, inl, inr, ◌<◌, ℕ, zero, suc, List, [], ◌∷◌, ◌++◌, length, get_or, Option, Some, None, refl, ap, sym, arith}
use Rattle.std.proofs.lemmas.Option.{none-some, same_Some}

pub anchor_inside : (anchors : List (Option ℕ)) (s i : ℕ) → get_or anchors s None ≡ Some i → s < length anchors
anchor_inside [] s i e = absurd (none-some i e)
anchor_inside (a ∷ anchors) zero i e = omega arith
anchor_inside (a ∷ anchors) (suc s) i e = let less = anchor_inside anchors s i e in omega (arith, less)

pub anchor_stays : (anchors : List (Option ℕ)) (k s i : ℕ) → get_or anchors s None ≡ Some i
    → get_or (anchors ++ Some k ∷ []) s None ≡ Some i
anchor_stays [] k s i e = absurd (none-some i e)
anchor_stays (a ∷ anchors) k zero i e = e
anchor_stays (a ∷ anchors) k (suc s) i e = anchor_stays anchors k s i e

pub added_anchor : (anchors : List (Option ℕ)) (k : ℕ) → get_or (anchors ++ Some k ∷ []) (length anchors) None ≡ Some k
added_anchor [] k = refl
added_anchor (a ∷ anchors) k = added_anchor anchors k

pub old_or_added : (anchors : List (Option ℕ)) (k s i : ℕ) → get_or (anchors ++ Some k ∷ []) s None ≡ Some i
    → (get_or anchors s None ≡ Some i) ⊎ ((s ≡ length anchors) × (i ≡ k))
old_or_added [] k zero i e = inr (refl, sym (same_Some k i e))
old_or_added [] k (suc s) i e = absurd (none-some i e)
old_or_added (a ∷ anchors) k zero i e = inl e
old_or_added (a ∷ anchors) k (suc s) i e = elim (old_or_added anchors k s i e) [
  | inl old ↦ inl old
  | inr new ↦ inr (ap suc new.0, new.1)
]
