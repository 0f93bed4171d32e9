-- The ids of the records of all objects, and lists that lose an id.
use Rattle.std.proofs.Common.{◌≡◌, ℕ, zero, suc, ◌<◌, ◌≤◌, ◌==◌, List, [], ◌∷◌, length, map, refl, ap, Option, Some, Bool, true, false, ◌||◌, cond, arith}
use Rattle.std.specs.Prelude.{slice_get}
use Rattle.std.specs.Option.{unwrap_or}
use Rattle.rt_values.specs.Maps.{contains}
use Rattle.snap_ids.specs.IdLists.{without_id}
use Rattle.snap_records.specs.Records.{Rec}

-- The key of a record that is in a chain.
pub key_of : (f : ℕ → Rec) (keys : List ℕ) (at : ℕ) (p : Rec) → slice_get (map f keys) at ≡ Some p
    → (r : ℕ) × (slice_get keys at ≡ Some r) × (f r ≡ p)
key_of f [] at p h = absurd cc
key_of f (k ∷ keys) zero p h = (k, refl, ap (λ (o : Option Rec). unwrap_or o (f k)) h)
key_of f (k ∷ keys) (suc at) p h = key_of f keys at p h

not_longer : (x : ℕ) (xs : List ℕ) → length (without_id x xs) ≤ length xs
not_longer x [] = omega arith
not_longer x (y ∷ ys) = by (y == x) (not_longer x ys) where
  by : (b : Bool) → length (without_id x ys) ≤ length ys
      → length (cond b (without_id x ys) (y ∷ without_id x ys)) ≤ suc (length ys)
  by true rest = omega (arith, rest)
  by false rest = omega (arith, rest)

-- A list that loses an id that it contains gets shorter.
pub shorter : (x : ℕ) (xs : List ℕ) → contains x xs ≡ true → length (without_id x xs) < length xs
shorter x [] h = absurd cc
shorter x (y ∷ ys) h = by (y == x) (not_longer x ys) (shorter x ys) h where
  by : (b : Bool) → length (without_id x ys) ≤ length ys
      → (contains x ys ≡ true → length (without_id x ys) < length ys) → (b || contains x ys) ≡ true
      → length (cond b (without_id x ys) (y ∷ without_id x ys)) < suc (length ys)
  by true rest more h = omega (arith, rest)
  by false rest more h = omega (arith, more h)
