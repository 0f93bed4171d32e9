-- Lists of ids of which one is added in its position in the order.
use Rattle.std.proofs.Common.{◌≡◌, ℕ, suc, ◌+◌, ◌≤◌, ◌==◌, ◌||◌, nat_lt, List, [], ◌∷◌, ◌++◌, length, refl, sym, ap, ◌∙◌, Bool, true, false, cond, arith}
use Rattle.rt_values.specs.Maps.{contains}
use Rattle.snap_ids.specs.IdLists.{with_id}
use Rattle.snap_ids.proofs.IdLists.{contains-with_id}
use Rattle.snap_ids.proofs.Members.{append_has}

-- An insert adds at most one id.
length-with_id : (x : ℕ) (ys : List ℕ) → length (with_id x ys) ≤ length ys + 1
length-with_id x [] = omega arith
length-with_id x (y ∷ ys) = by (nat_lt x y) (x == y) (length-with_id x ys) where
  by : (a b : Bool) → length (with_id x ys) ≤ length ys + 1
      → length (cond a (x ∷ y ∷ ys) (cond b (y ∷ ys) (y ∷ with_id x ys))) ≤ suc (length ys) + 1
  by true b later = omega arith
  by false true later = omega arith
  by false false later = omega (arith, later)

pub length-added : (x : ℕ) (ys zs few : List ℕ) → zs ≡ with_id x ys → length (zs ++ few) ≤ length (ys ++ few) + 1
length-added x ys zs few is = omega (
  arith,
  length-both zs few,
  length-both ys few,
  ap (λ (l : List ℕ). length l) is,
  length-with_id x ys,
) where
  length-both : (xs more : List ℕ) → length (xs ++ more) ≡ length xs + length more
  length-both [] more = omega arith
  length-both (x ∷ xs) more = omega (arith, length-both xs more)

pub contains-added : (i x : ℕ) (ys zs few : List ℕ) → zs ≡ with_id x ys
    → contains i (zs ++ few) ≡ (contains i (ys ++ few) || i == x)
contains-added i x ys zs few is =
    ap (λ (l : List ℕ). contains i (l ++ few)) is ∙ append_has i (with_id x ys) few
    ∙ ap (λ b. b || contains i few) (contains-with_id i x ys)
    ∙ moved (contains i ys) (i == x) (contains i few) ∙ sym (ap (λ b. b || i == x) (append_has i ys few)) where
      moved : (a b d : Bool) → ((a || b) || d) ≡ ((a || d) || b)
      moved true b d = refl
      moved false true true = refl
      moved false true false = refl
      moved false false true = refl
      moved false false false = refl
