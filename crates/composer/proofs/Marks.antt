-- Marks of objects.
use Rattle.std.proofs.Common.{◌≡◌, ◌≢◌, ◌<◌, ◌≤◌, ℕ, zero, suc, ◌+◌, ◌==◌, ◌||◌, Bool, true, false, List, [], ◌∷◌, length, length-set, get_or, set, replicate, if◌then◌else◌, refl, ap, sym, ◌∙◌, arith}
use Rattle.std.proofs.lemmas.Bool.{eqb-true, eqb-false, eq-eqb}
use Rattle.rt_values.specs.Maps.{contains}
use Rattle.composer.specs.OwedObjects.{marked_numbers, marks_after}

no_marks_from : (i n : ℕ) → marked_numbers i (replicate n false) ≡ []
no_marks_from i zero = refl
no_marks_from i (suc n) = no_marks_from (i + 1) n

pub no_marks : (n : ℕ) → marked_numbers 0 (replicate n false) ≡ []
no_marks n = no_marks_from 0 n

-- A number below i is not among those from i.
below : (x i : ℕ) (bs : List Bool) → x < i → contains x (marked_numbers i bs) ≡ false
below x i [] lt = refl
below x i (b ∷ bs) lt = by b (below x (i + 1) bs (omega (arith, lt))) (i == x) refl
  where
    by : (c : Bool) → contains x (marked_numbers (i + 1) bs) ≡ false → (e : Bool) → (i == x) ≡ e
        → contains x (if c then i ∷ marked_numbers (i + 1) bs else marked_numbers (i + 1) bs) ≡ false
    by false later e f = later
    by true later true f = absurd (let same = eqb-true i x f in omega (arith, same, lt))
    by true later false f = ap (λ c. c || contains x (marked_numbers (i + 1) bs)) f ∙ later

-- Whether a number is among the marked ones.
mark_from : (k x i : ℕ) (bs : List Bool) → x ≡ i + k → contains x (marked_numbers i bs) ≡ get_or bs k false
mark_from k x i [] e = refl
mark_from zero x i (true ∷ bs) e = ap (λ c. c || contains x (marked_numbers (i + 1) bs)) (eq-eqb i x (omega (arith, e)))
mark_from zero x i (false ∷ bs) e = below x (i + 1) bs (omega (arith, e))
mark_from (suc k) x i (b ∷ bs) e = by b (mark_from k x (i + 1) bs (omega (arith, e))) (i == x) refl
  where
    by : (c : Bool) → contains x (marked_numbers (i + 1) bs) ≡ get_or bs k false → (f : Bool) → (i == x) ≡ f
        → contains x (if c then i ∷ marked_numbers (i + 1) bs else marked_numbers (i + 1) bs) ≡ get_or bs k false
    by false later f g = later
    by true later true g = absurd (let same = eqb-true i x g in omega (arith, same, e))
    by true later false g = ap (λ c. c || contains x (marked_numbers (i + 1) bs)) g ∙ later

pub mark_of : (x : ℕ) (bs : List Bool) → contains x (marked_numbers 0 bs) ≡ get_or bs x false
mark_of x bs = mark_from x x 0 bs (omega arith)

get_past : (bs : List Bool) (x : ℕ) → length bs ≤ x → get_or bs x false ≡ false
get_past [] x le = refl
get_past (b ∷ bs) zero le = absurd (omega (arith, le))
get_past (b ∷ bs) (suc x) le = get_past bs x (omega (arith, le))

pub no_mark : (x : ℕ) (bs : List Bool) → length bs ≤ x → contains x (marked_numbers 0 bs) ≡ false
no_mark x bs le = mark_of x bs ∙ get_past bs x le

pub count_marks : (n : ℕ) → length (replicate n false) ≡ n
count_marks zero = refl
count_marks (suc n) = ap suc (count_marks n)

-- The marks after some objects were marked.

pub marks_stay : (bs : List Bool) (xs : List ℕ) → length (marks_after bs xs) ≡ length bs
marks_stay bs [] = refl
marks_stay bs (x ∷ xs) = marks_stay (set bs x true) xs ∙ length-set bs x true

or_none : (a : Bool) → a ≡ (a || false)
or_none true = refl
or_none false = refl

or_all : (a : Bool) → (a || true) ≡ true
or_all true = refl
or_all false = refl

set_same : (bs : List Bool) (x : ℕ) → x < length bs → get_or (set bs x true) x false ≡ true
set_same [] x lt = absurd (omega (arith, lt))
set_same (b ∷ bs) zero lt = refl
set_same (b ∷ bs) (suc x) lt = set_same bs x (omega (arith, lt))

set_other : (bs : List Bool) (x y : ℕ) → y ≢ x → get_or (set bs y true) x false ≡ get_or bs x false
set_other [] x y ne = refl
set_other (b ∷ bs) zero zero ne = absurd (ne refl)
set_other (b ∷ bs) zero (suc y) ne = refl
set_other (b ∷ bs) (suc x) zero ne = refl
set_other (b ∷ bs) (suc x) (suc y) ne = set_other bs x y (λ e. ne (ap suc e))

mark_set : (bs : List Bool) (x y : ℕ) → x < length bs → get_or (set bs y true) x false ≡ (get_or bs x false || (y == x))
mark_set bs x y lt = by (y == x) refl
  where
    by : (c : Bool) → (y == x) ≡ c → get_or (set bs y true) x false ≡ (get_or bs x false || c)
    by true e =
        ap (λ z. get_or (set bs z true) x false) (eqb-true y x e) ∙ set_same bs x lt ∙ sym (or_all (get_or bs x false))
    by false e = set_other bs x y (eqb-false y x e) ∙ or_none (get_or bs x false)

or_assoc : (a b c : Bool) → ((a || b) || c) ≡ (a || (b || c))
or_assoc true b c = refl
or_assoc false b c = refl

marks_after_is : (bs : List Bool) (xs : List ℕ) (x : ℕ) → x < length bs
    → get_or (marks_after bs xs) x false ≡ (get_or bs x false || contains x xs)
marks_after_is bs [] x lt = or_none (get_or bs x false)
marks_after_is bs (y ∷ ys) x lt =
    let long = length-set bs y true in
    marks_after_is (set bs y true) ys x (omega (arith, long, lt))
    ∙ ap (λ c. c || contains x ys) (mark_set bs x y lt)
    ∙ or_assoc (get_or bs x false) (y == x) (contains x ys)

pub marked_after : (bs : List Bool) (xs : List ℕ) (x : ℕ) → x < length bs
    → contains x (marked_numbers 0 (marks_after bs xs)) ≡ (contains x (marked_numbers 0 bs) || contains x xs)
marked_after bs xs x lt =
    mark_of x (marks_after bs xs) ∙ marks_after_is bs xs x lt ∙ ap (λ c. c || contains x xs) (sym (mark_of x bs))

-- An object without a mark cannot be marked.
pub set_past : (bs : List Bool) (x : ℕ) → length bs ≤ x → set bs x true ≡ bs
set_past [] x le = refl
set_past (b ∷ bs) zero le = absurd (omega (arith, le))
set_past (b ∷ bs) (suc x) le = ap (λ l. b ∷ l) (set_past bs x (omega (arith, le)))
