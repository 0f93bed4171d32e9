-- Members of lists of numbers.
use Rattle.std.proofs.Common.{◌≡◌, ◌⊎◌, inl, inr, ◌<◌, ◌==◌, ◌||◌, ℕ, zero, suc, Bool, true, false, List, [], ◌∷◌, ◌++◌, length, get_or, refl, ap, sym, ◌∙◌, arith, true≢false, eq-eqb}
use Rattle.std.proofs.lemmas.Bool.{eqb-true}
use Rattle.rt_values.specs.Maps.{contains}
use Rattle.rt_groups.specs.Frames.{meets}

pub or_left : (a b : Bool) → a ≡ true → (a || b) ≡ true
or_left true b e = refl
or_left false b e = absurd cc

pub or_right : (a b : Bool) → b ≡ true → (a || b) ≡ true
or_right true b e = refl
or_right false b e = e

pub either : (a b : Bool) → (a || b) ≡ true → (a ≡ true) ⊎ (b ≡ true)
either true b e = inl refl
either false b e = inr e

pub not_both : (a : Bool) → a ≡ true → a ≡ false → ⊥
not_both a holds fails = true≢false (sym holds ∙ fails)

pub is_none : (a : Bool) → (a ≡ true → ⊥) → a ≡ false
is_none true h = absurd (h refl)
is_none false h = refl

pub kept_by_append : (x : ℕ) (xs ys : List ℕ) → contains x xs ≡ true → contains x (xs ++ ys) ≡ true
kept_by_append x [] ys e = absurd cc
kept_by_append x (y ∷ xs) ys e = elim (either (y == x) (contains x xs) e) [
  | inl same ↦ or_left (y == x) (contains x (xs ++ ys)) same
  | inr later ↦ or_right (y == x) (contains x (xs ++ ys)) (kept_by_append x xs ys later)
]

pub appended : (x : ℕ) (xs : List ℕ) → contains x (xs ++ x ∷ []) ≡ true
appended x [] = or_left (x == x) false (eq-eqb x x refl)
appended x (y ∷ xs) = or_right (y == x) (contains x (xs ++ x ∷ [])) (appended x xs)

pub in_appended : (x y : ℕ) (xs : List ℕ) → contains x (xs ++ y ∷ []) ≡ true → (contains x xs ≡ true) ⊎ (y ≡ x)
in_appended x y [] e = elim (either (y == x) false e) [ inl same ↦ inr (eqb-true y x same) | inr never ↦ absurd cc ]
in_appended x y (z ∷ xs) e = elim (either (z == x) (contains x (xs ++ y ∷ [])) e) [
  | inl same ↦ inl (or_left (z == x) (contains x xs) same)
  | inr later ↦ elim (in_appended x y xs later) [
    | inl has ↦ inl (or_right (z == x) (contains x xs) has)
    | inr is ↦ inr is
  ]
]

-- A member has an index.
pub record HasIndex (x : ℕ) (xs : List ℕ) : Type 0 where
  pub index : ℕ
  pub inside : index < length xs
  pub is : get_or xs index 0 ≡ x

pub index_of : (x : ℕ) (xs : List ℕ) → contains x xs ≡ true → HasIndex x xs
index_of x [] e = absurd cc
index_of x (y ∷ xs) e = elim (either (y == x) (contains x xs) e) [
  | inl same ↦ record { index = zero; inside = omega arith; is = eqb-true y x same }
  | inr later ↦ let more = index_of x xs later in let less = more.inside in
      record { index = suc more.index; inside = omega (arith, less); is = more.is }
]

-- A number is in both lists.
pub record HaveCommon (xs ys : List ℕ) : Type 0 where
  pub member : ℕ
  pub left : contains member xs ≡ true
  pub right : contains member ys ≡ true

pub common_of : (xs ys : List ℕ) → meets xs ys ≡ true → HaveCommon xs ys
common_of [] ys e = absurd cc
common_of (x ∷ xs) ys e = elim (either (contains x ys) (meets xs ys) e) [
  | inl has ↦ record { member = x; left = or_left (x == x) (contains x xs) (eq-eqb x x refl); right = has }
  | inr later ↦ let more = common_of xs ys later in
      record {
        member = more.member;
        left = or_right (x == more.member) (contains more.member xs) more.left;
        right = more.right;
      }
]

pub common_meets : (x : ℕ) (xs ys : List ℕ) → contains x xs ≡ true → contains x ys ≡ true → meets xs ys ≡ true
common_meets x [] ys e has = absurd cc
common_meets x (y ∷ xs) ys e has = elim (either (y == x) (contains x xs) e) [
  | inl same ↦ or_left (contains y ys) (meets xs ys) (ap (λ z. contains z ys) (eqb-true y x same) ∙ has)
  | inr later ↦ or_right (contains y ys) (meets xs ys) (common_meets x xs ys later has)
]
