-- The least offset of several lists.
use Rattle.std.proofs.Common.{arith, ◌≡◌, ◌⊎◌, ◌≤◌, ℕ, inl, inr, suc, min, All, Contains, nat_lt, List, [], ◌∷◌, ◌++◌, Option, Some, None, false, refl}
use Rattle.std.proofs.lemmas.Bool.Decides.{nat_tests}
use Rattle.std.proofs.lemmas.List.Elements.{All-cons, All-nil}
use Rattle.lang_limits.specs.LeastOffset.{lesser_offset, least_offset_from}
use Rattle.lang_limits.specs.Laws.{LeastIsLeast, NoLeastNoOffset}

pub least_append : (o : Option ℕ) (xs ys : List ℕ)
    → least_offset_from o (xs ++ ys) ≡ least_offset_from (least_offset_from o xs) ys
least_append o [] ys = refl
least_append o (x ∷ xs) ys = least_append (lesser_offset o x) xs ys

-- The least offset from a first one: at most that, one of all, and no offset before it.
Least : List ℕ → ℕ → ℕ → Type 0
Least offsets kept at = ((kept ≡ at) ⊎ Contains offsets at) × (at ≤ kept) × All (λ other. nat_lt other at ≡ false) offsets

here : (p at : ℕ) (ps : List ℕ) → p ≡ at → Contains (p ∷ ps) at
here p at ps is = (0, omega arith, is)

there : (p at : ℕ) (ps : List ℕ) → Contains ps at → Contains (p ∷ ps) at
there p at ps has = (suc has.0, omega (arith, has.1), has.2)

first : (p at : ℕ) (ps : List ℕ) → (p ≡ at) ⊎ Contains ps at → Contains (p ∷ ps) at
first p at ps has = elim has [ inl is ↦ here p at ps is | inr behind ↦ there p at ps behind ]

inject : {a b : ℕ} → Some a ≡ Some b → a ≡ b
inject h = cc

lesser_is : (kept p : ℕ) → (min kept p ≡ kept) ⊎ (min kept p ≡ p)
lesser_is kept p = grind arith

not_before : (other at : ℕ) → at ≤ other → nat_lt other at ≡ false
not_before other at h = grind (arith, nat_tests)

least_from : (offsets : List ℕ) (kept at : ℕ) → least_offset_from (Some kept) offsets ≡ Some at → Least offsets kept at
unfolding Least
least_from [] kept at h = (inl (inject h), omega (arith, inject h), All-nil (λ (other : ℕ). nat_lt other at ≡ false))
least_from (p ∷ ps) kept at h = by (least_from ps (min kept p) at h) (lesser_is kept p)
  where
    by : Least ps (min kept p) at → (min kept p ≡ kept) ⊎ (min kept p ≡ p) → Least (p ∷ ps) kept at
    by l is = (
      elim l.0 [
        | inl m ↦ elim is [ inl k ↦ inl (cc) | inr q ↦ inr (here p at ps (cc)) ]
        | inr has ↦ inr (there p at ps has)
      ],
      omega (arith, l.1),
      All-cons (λ (other : ℕ). nat_lt other at ≡ false) p ps (not_before p at (omega (arith, l.1))) l.2,
    )

pub least_is_least : LeastIsLeast
unfolding Least
least_is_least [] at h = absurd (cc)
least_is_least (p ∷ ps) at h =
    let l = least_from ps p at h in
    (first p at ps l.0, All-cons (λ (other : ℕ). nat_lt other at ≡ false) p ps (not_before p at l.1) l.2)

kept : (offsets : List ℕ) (at : ℕ) → (least : ℕ) × (least_offset_from (Some at) offsets ≡ Some least)
kept [] at = (at, refl)
kept (p ∷ ps) at = kept ps (min at p)

-- No least offset of no offsets.
pub no_least : NoLeastNoOffset
no_least [] h = refl
no_least (p ∷ ps) h = let k = kept ps p in absurd (cc (k.1))

-- No least offset of further ones, so there are none.
pub none_exceeds : (o : Option ℕ) (offsets : List ℕ) → least_offset_from o offsets ≡ None → offsets ≡ []
none_exceeds o [] h = refl
none_exceeds None (p ∷ ps) h = let k = kept ps p in absurd (cc (k.1))
none_exceeds (Some at) (p ∷ ps) h = let k = kept ps (min at p) in absurd (cc (k.1))
