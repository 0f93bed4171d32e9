-- Queued indexes are those of old groups.
use Rattle.std.proofs.Common.{◌≡◌, ◌<◌, ℕ, zero, suc, Bool, true, false, List, [], ◌∷◌, ◌++◌, drop, take, Option, Some, None, if◌then◌else◌, refl, ap, sym, ◌∙◌, arith}
use Rattle.std.specs.Prelude.{slice_get, slice_set, slice_index_or, IfSome}
use Rattle.rt_groups.specs.Paths.{GroupKey, same_sibling}
use Rattle.run_causes.specs.OldMatches.{Level, level_without, IsBelow, AreBelow, AreFoundBelow}

-- The same, level by level.
abbrev EachIsBelow : ℕ → List Level → Type 0
EachIsBelow n [] = Unit {0}
EachIsBelow n (l ∷ ls) = IsBelow n l × EachIsBelow n ls

each : (n : ℕ) (ls : List Level) → AreBelow n ls → EachIsBelow n ls
each n [] h = tt
each n (l ∷ ls) h = (h 0, each n ls (λ k. h (suc k)))

all : (n : ℕ) (ls : List Level) → EachIsBelow n ls → AreBelow n ls
all n [] h k = λ s j i e. absurd cc
all n (l ∷ ls) h zero = h.0
all n (l ∷ ls) h (suc k) = all n ls h.1 k

each_taken : (n m : ℕ) (ls : List Level) → EachIsBelow n ls → EachIsBelow n (take m ls)
each_taken n zero ls h = tt
each_taken n (suc m) [] h = tt
each_taken n (suc m) (l ∷ ls) h = (h.0, each_taken n m ls h.1)

each_set : (n k : ℕ) (ls : List Level) (level : Level) → IsBelow n level → EachIsBelow n ls
    → EachIsBelow n (slice_set ls k level)
each_set n k [] level b h = tt
each_set n zero (l ∷ ls) level b h = (b, h.1)
each_set n (suc k) (l ∷ ls) level b h = (h.0, each_set n k ls level b h.1)

each_pushed : (n : ℕ) (ls : List Level) (level : Level) → IsBelow n level → EachIsBelow n ls
    → EachIsBelow n (ls ++ level ∷ [])
each_pushed n [] level b h = (b, tt)
each_pushed n (l ∷ ls) level b h = (h.0, each_pushed n ls level b h.1)

pub taken : (n m : ℕ) (ls : List Level) → AreBelow n ls → AreBelow n (take m ls)
taken n m ls h = all n (take m ls) (each_taken n m ls (each n ls h))

pub with_level : (n k : ℕ) (ls : List Level) (level : Level) → IsBelow n level → AreBelow n ls
    → AreBelow n (slice_set ls k level)
with_level n k ls level b h = all n (slice_set ls k level) (each_set n k ls level b (each n ls h))

pub pushed : (n : ℕ) (ls : List Level) (level : Level) → IsBelow n level → AreBelow n ls
    → AreBelow n (ls ++ level ∷ [])
pushed n ls level b h = all n (ls ++ level ∷ []) (each_pushed n ls level b (each n ls h))

got_later : (is : List ℕ) (k : ℕ) → slice_get (drop 1 is) k ≡ slice_get is (suc k)
got_later [] k = refl
got_later (i ∷ is) k = refl

pub without : (n : ℕ) (x : GroupKey) (level : Level) → IsBelow n level → IsBelow n (level_without x level)
without n x level h s j i = by (same_sibling x s)
  where
    by : (b : Bool) → slice_get (if b then drop 1 (level s) else level s) j ≡ Some i → i < n
    by true e = h s (suc j) i (sym (got_later (level s) j) ∙ e)
    by false e = h s j i e

-- One more index in a queue.
got_pushed : (n at : ℕ) (is : List ℕ) → at < n → ((j i : ℕ) → slice_get is j ≡ Some i → i < n)
    → (j i : ℕ) → slice_get (is ++ at ∷ []) j ≡ Some i → i < n
got_pushed n at [] lt h zero i e = let same : at ≡ i = cc in omega (arith, lt, same)
got_pushed n at [] lt h (suc j) i e = absurd cc
got_pushed n at (k ∷ is) lt h zero i e = h 0 i e
got_pushed n at (k ∷ is) lt h (suc j) i e = got_pushed n at is lt (λ j. h (suc j)) j i e

pub queue_below : (n at : ℕ) (b : Bool) (was now : List ℕ) → now ≡ (if b then was ++ at ∷ [] else was) → at < n
    → ((j i : ℕ) → slice_get was j ≡ Some i → i < n) → (j i : ℕ) → slice_get now j ≡ Some i → i < n
queue_below n at true was now e lt h j i f =
    got_pushed n at was lt h j i (sym (ap (λ l. slice_get l j) e) ∙ f)
queue_below n at false was now e lt h j i f = h j i (sym (ap (λ l. slice_get l j) e) ∙ f)

pub one_found : (n : ℕ) (found : Option ℕ) (olds : List (Option ℕ)) → IfSome found (λ i. i < n) → AreFoundBelow n olds
    → AreFoundBelow n (olds ++ found ∷ [])
one_found n None [] h all = tt
one_found n (Some i) [] h all = (h, tt)
one_found n found (None ∷ olds) h all = one_found n found olds h all
one_found n found (Some i ∷ olds) h all = (all.0, one_found n found olds h all.1)

pub found_at : (n k : ℕ) (olds : List (Option ℕ)) → AreFoundBelow n olds
    → IfSome (slice_index_or olds k None) (λ i. i < n)
found_at n k [] all = tt
found_at n zero (None ∷ olds) all = tt
found_at n (suc k) (None ∷ olds) all = found_at n k olds all
found_at n zero (Some i ∷ olds) all = all.0
found_at n (suc k) (Some i ∷ olds) all = found_at n k olds all.1
