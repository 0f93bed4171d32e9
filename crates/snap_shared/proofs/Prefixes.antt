-- Prefixes of histories, and histories with one more call.
use Rattle.std.proofs.Common.{◌≡◌, ℕ, ◌≢◌, List, [], ◌∷◌, ◌++◌, Bool, true, false, eqb, sym, refl, ap, ⊎_elim, ◌∙◌, cond, ne_eqb, append-nil, append_assoc}
use Rattle.snap_shared.specs.Histories.{StartsWith, calls_by}
use Rattle.snap_shared.specs.StepResults.{GrowsByAtMostOne}

module _ {E : Type 0} (caller : E → ℕ) where
  cond_push : (b : Bool) (x : E) (xs ys : List E) → cond b (x ∷ (xs ++ ys)) (xs ++ ys) ≡ cond b (x ∷ xs) xs ++ ys
  cond_push true x xs ys = refl
  cond_push false x xs ys = refl

  pub calls_by-append : (n : ℕ) (xs ys : List E)
      → calls_by caller n (xs ++ ys) ≡ calls_by caller n xs ++ calls_by caller n ys
  calls_by-append n [] ys = refl
  calls_by-append n (x ∷ xs) ys =
      rw (calls_by-append n xs ys) (cond_push (eqb (caller x) n) x (calls_by caller n xs) (calls_by caller n ys))

  -- Another caller's calls stay the same.
  pub other_calls : (n m : ℕ) (old new : List E) → m ≢ n → GrowsByAtMostOne caller n old new
      → calls_by caller m new ≡ calls_by caller m old
  other_calls n m old new ne g = ⊎_elim
      (λ e. ap (calls_by caller m) e)
      (λ e.
      let distinct : eqb (caller e.0) m ≡ false = ne_eqb (caller e.0) m (λ q. ne (sym q ∙ e.2)) in
      let last : calls_by caller m (e.0 ∷ []) ≡ [] = ap (λ b. cond b (e.0 ∷ []) []) distinct in
      ap (calls_by caller m) e.1 ∙ calls_by-append m old (e.0 ∷ []) ∙ ap (λ l. calls_by caller m old ++ l) last
      ∙ append-nil (calls_by caller m old))
      g

  pub starts_on : (n : ℕ) (old new seen : List E) → GrowsByAtMostOne caller n old new → StartsWith old seen
      → StartsWith new seen
  starts_on n old new seen g b = ⊎_elim (λ e. (b.0, e ∙ b.1))
      (λ e. (b.0 ++ e.0 ∷ [], e.1 ∙ ap (λ l. l ++ e.0 ∷ []) b.1 ∙ append_assoc seen b.0 (e.0 ∷ []))) g

pub starts_itself : {E : Type 0} (xs : List E) → StartsWith xs xs
starts_itself xs = ([], sym (append-nil xs))

pub starts_trans : {E : Type 0} (xs ys zs : List E) → StartsWith xs ys → StartsWith ys zs → StartsWith xs zs
starts_trans xs ys zs a b = (b.0 ++ a.0, a.1 ∙ ap (λ l. l ++ a.0) b.1 ∙ append_assoc zs b.0 a.0)
