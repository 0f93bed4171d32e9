-- The ids that a write keeps are ids of records that are read, and are few.
use Rattle.std.proofs.Common.{◌≡◌, ℕ, ◌+◌, ◌*◌, ◌≤◌, ◌<◌, List, [], ◌∷◌, ◌++◌, length, take, get_or, refl, ap, ◌∙◌, Bool, true, false, cond, suc, arith}
use Rattle.std.proofs.lemmas.List.{take_more}
use Rattle.snap_laws.specs.Coverage.{live_count}

-- A live last name adds one to the number of live names.
live_last : (live : ℕ → Bool) (ns : List ℕ) (n : ℕ)
    → live_count live (ns ++ n ∷ []) ≡ live_count live ns + cond (live n) 1 0
live_last live [] n = by (live n) where
  by : (b : Bool) → cond b 1 0 ≡ 0 + cond b 1 0
  by true = refl
  by false = refl
live_last live (m ∷ ns) n = by (live m) (live_last live ns n) where
  by : (b : Bool) → live_count live (ns ++ n ∷ []) ≡ live_count live ns + cond (live n) 1 0
      → cond b (suc (live_count live (ns ++ n ∷ []))) (live_count live (ns ++ n ∷ []))
      ≡ cond b (suc (live_count live ns)) (live_count live ns) + cond (live n) 1 0
  by true later = omega (arith, later)
  by false later = later

pub live_more : (live : ℕ → Bool) (items : List ℕ) (i : ℕ) → i < length items
    → live_count live (take (i + 1) items) ≡ live_count live (take i items) + cond (live (get_or items i 0)) 1 0
live_more live items i within = ap (λ (l : List ℕ). live_count live l) (take_more items i 0 within)
    ∙ live_last live (take i items) (get_or items i 0)

pub two_each : (b : Bool) (a c old new : ℕ) → c ≡ a + cond b 1 0 → old ≤ 2 * a + 1 → new ≤ old + cond b 2 0
    → new ≤ 2 * c + 1
two_each true a c old new one two three = omega (arith, one, two, three)
two_each false a c old new one two three = omega (arith, one, two, three)
