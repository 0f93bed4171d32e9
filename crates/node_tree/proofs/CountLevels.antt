-- The levels of counts give the total of all counts before an index.
use Rattle.std.proofs.Common.{◌≡◌, ℕ, zero, suc, ◌+◌, ◌-◌, ◌/◌, ◌%◌, ◌≤◌, ◌<◌, List, [], ◌∷◌, take, drop, set, get_or, length, refl, ap, sym, ◌∙◌, subst, arith, append_assoc, ◌++◌, ◌⊎◌, inl, inr}
use Rattle.std.proofs.lemmas.List.{take_more_set, drop-set-lt, drop_more, append-nil}
use Rattle.node_tree.specs.Counting.{total, pairs, AreLevels, first_level, levels_after}

-- The total of an even number of counts is the total of half as many pairs.
pub even_sum : (xs : List ℕ) (q : ℕ) → q + q ≤ length xs → total (take (q + q) xs) ≡ total (take q (pairs xs))
even_sum xs zero h = refl
even_sum [] (suc q) h = absurd (omega arith)
even_sum (x ∷ []) (suc q) h = absurd (omega arith)
even_sum (x ∷ (y ∷ ys)) (suc q) h =
    let twice : suc q + suc q ≡ suc (suc (q + q)) = omega arith in
    let rest = even_sum ys q (omega arith) in
    ap (λ n. total (take n (x ∷ (y ∷ ys)))) twice ∙ omega (arith, rest)

pub pairs_few : (xs : List ℕ) → total (pairs xs) ≤ total xs
pairs_few [] = omega arith
pairs_few (x ∷ []) = omega arith
pairs_few (x ∷ (y ∷ ys)) = omega (arith, pairs_few ys)

pub pairs_length : (xs : List ℕ) → length (pairs xs) ≡ length xs / 2
pairs_length [] = refl
pairs_length (x ∷ []) = refl
pairs_length (x ∷ (y ∷ ys)) = omega (arith, pairs_length ys)

-- The level above the first one has the sums of pairs.
pub level_step : (l : List ℕ) (ls : List (List ℕ)) → AreLevels l (l ∷ ls)
    → (AreLevels (first_level ls) ls) × (first_level ls ≡ pairs l)
level_step l [] h = (refl, sym h.1)
level_step l (m ∷ ls) h = ((refl, subst (λ (xs : List ℕ). AreLevels (pairs xs) ls) (sym h.1.0) h.1.1), h.1.0)

-- The total up to an odd index is the sum before the last count, and this count.
pub odd_sum : (l : List ℕ) (at : ℕ) → at % 2 ≡ 1 → at ≤ length l
    → total (take at l) ≡ get_or l (at - 1) 0 + total (take (at / 2) (pairs l))
odd_sum l zero e h = absurd (omega arith)
odd_sum [] (suc at) e h = absurd (omega arith)
odd_sum (x ∷ []) (suc zero) e h = omega arith
odd_sum (x ∷ []) (suc (suc at)) e h = absurd (omega arith)
odd_sum (x ∷ (y ∷ ys)) (suc zero) e h = omega arith
odd_sum (x ∷ (y ∷ ys)) (suc (suc zero)) e h = absurd (omega arith)
odd_sum (x ∷ (y ∷ ys)) (suc (suc (suc at))) e h =
    let half : suc (suc (suc at)) / 2 ≡ suc (suc at / 2) = omega arith in
    let rest = odd_sum ys (suc at) (omega arith) (omega arith) in
    let last : suc (suc (suc at)) - 1 ≡ suc (suc at) = omega arith in
    let one : suc at - 1 ≡ at = omega arith in
    let whole : total (take (suc (suc (suc at)) / 2) (pairs (x ∷ (y ∷ ys)))) ≡ (x + y) + total
    (take (suc at / 2) (pairs ys)) = ap (λ n. total (take n (pairs (x ∷ (y ∷ ys))))) half in
    let got : get_or (x ∷ (y ∷ ys)) (suc (suc (suc at)) - 1) 0 ≡ get_or ys at 0 =
    ap (λ n. get_or (x ∷ (y ∷ ys)) n 0) last in
    let was : get_or ys (suc at - 1) 0 ≡ get_or ys at 0 = ap (λ n. get_or ys n 0) one in
    omega (arith, rest, whole, got, was)

-- The total up to an even index is a total of pairs.
pub half_sum : (l : List ℕ) (at : ℕ) → (at % 2 ≡ 1 → ⊥) → at ≤ length l
    → total (take at l) ≡ total (take (at / 2) (pairs l))
half_sum l at e h =
    let twice : at / 2 + at / 2 ≡ at = omega arith in
    ap (λ n. total (take n l)) (sym twice) ∙ even_sum l (at / 2) (omega (arith, twice))

pub half_inside : (l : List ℕ) (at : ℕ) → at ≤ length l → at / 2 ≤ length (pairs l)
half_inside l at h = let e = pairs_length l in omega (arith, e)

-- Subtracting 1 from a count subtracts 1 from the total above it.
pairs_after : (l : List ℕ) (at : ℕ) → (0 < get_or l at 0) ⊎ (length l ≤ at)
    → (pairs (set l at (get_or l at 0 - 1)) ≡ set (pairs l) (at / 2) (get_or (pairs l) (at / 2) 0 - 1))
    × ((0 < get_or (pairs l) (at / 2) 0) ⊎ (length (pairs l) ≤ at / 2))
pairs_after [] at h = (refl, inr (omega arith))
pairs_after (x ∷ []) zero h = (refl, inr (omega arith))
pairs_after (x ∷ []) (suc at) h = (refl, inr (omega arith))
pairs_after (x ∷ (y ∷ ys)) zero h = elim h [
  | inl some ↦ (let e : (x - 1) + y ≡ (x + y) - 1 = omega arith in ap (λ n. n ∷ pairs ys) e, inl (omega arith))
  | inr past ↦ absurd (omega arith)
]
pairs_after (x ∷ (y ∷ ys)) (suc zero) h = elim h [
  | inl some ↦ (let e : x + (y - 1) ≡ (x + y) - 1 = omega arith in ap (λ n. n ∷ pairs ys) e, inl (omega arith))
  | inr past ↦ absurd (omega arith)
]
pairs_after (x ∷ (y ∷ ys)) (suc (suc at)) h =
    let half : suc (suc at) / 2 ≡ suc (at / 2) = omega arith in
    let rest = pairs_after ys at (elim h [ inl some ↦ inl some | inr past ↦ inr (omega arith) ]) in (
      ap (λ l. (x + y) ∷ l) rest.0 ∙ ap (λ n. set (pairs (x ∷ (y ∷ ys))) n (get_or (pairs (x ∷ (y ∷ ys))) n 0 - 1))
          (sym half),
      elim rest.1 [
        | inl some ↦ inl (subst (λ (n : ℕ). 0 < get_or (pairs (x ∷ (y ∷ ys))) n 0) (sym half) some)
        | inr past ↦ inr (omega (arith, half))
      ],
    )

after_levels : (ls : List (List ℕ)) (l : List ℕ) (at : ℕ) → (0 < get_or l at 0) ⊎ (length l ≤ at) → AreLevels l ls
    → AreLevels (set l at (get_or l at 0 - 1)) (levels_after at ls)
after_levels [] l at h is = ap (λ xs. set xs at (get_or l at 0 - 1)) is
after_levels (m ∷ ls) l at h is =
    let up = pairs_after l at h in (
      ap (λ xs. set xs at (get_or xs at 0 - 1)) is.0,
      subst (λ (xs : List ℕ). AreLevels xs (levels_after (at / 2) ls)) (sym up.0)
          (after_levels ls (pairs l) (at / 2) up.1 is.1),
    )

first_after : (ls : List (List ℕ)) (at : ℕ)
    → first_level (levels_after at ls) ≡ set (first_level ls) at (get_or (first_level ls) at 0 - 1)
first_after [] at = refl
first_after (l ∷ ls) at = refl

less_after : (l : List ℕ) (at : ℕ) → total (set l at (get_or l at 0 - 1)) ≤ total l
less_after [] at = omega arith
less_after (x ∷ l) zero = omega arith
less_after (x ∷ l) (suc at) = omega (arith, less_after l at)

-- Properties of the levels after 1 is subtracted from a count.
pub after_all : (ls : List (List ℕ)) (at : ℕ) → AreLevels (first_level ls) ls → 0 < get_or (first_level ls) at 0
    → (AreLevels (first_level (levels_after at ls)) (levels_after at ls))
    × (total (first_level (levels_after at ls)) ≤ total (first_level ls))
    × (first_level (levels_after at ls) ≡ set (first_level ls) at (get_or (first_level ls) at 0 - 1))
after_all ls at is some =
    let first = first_after ls at in (
      subst (λ (xs : List ℕ). AreLevels xs (levels_after at ls)) (sym first)
          (after_levels ls (first_level ls) at (inl some) is),
      subst (λ (xs : List ℕ). total xs ≤ total (first_level ls)) (sym first) (less_after (first_level ls) at),
      first,
    )

-- A step of a loop over the levels.
pub after_step : (now : List (List ℕ)) (i at : ℕ) (l : List ℕ) → i < length now → l ≡ get_or now i l
    → take (i + 1) (set now i (set l at (get_or l at 0 - 1))) ++ levels_after (at / 2)
    (drop (i + 1) (set now i (set l at (get_or l at 0 - 1)))) ≡ take i now ++ levels_after at (drop i now)
after_step now i at l below read =
    let new : List ℕ = set l at (get_or l at 0 - 1) in
    ap (λ xs. xs ++ levels_after (at / 2) (drop (i + 1) (set now i new))) (take_more_set now i new below)
    ∙ ap (λ xs. (take i now ++ new ∷ []) ++ levels_after (at / 2) xs) (drop-set-lt (i + 1) now i new (omega arith))
    ∙ append_assoc (take i now) (new ∷ []) (levels_after (at / 2) (drop (i + 1) now))
    ∙ ap (λ xs. take i now ++ levels_after at xs)
    (sym (drop_more now i l below ∙ ap (λ x. x ∷ drop (i + 1) now) (sym read)))

pub take_less : (l : List ℕ) (n : ℕ) → total (take n l) ≤ total l
take_less l zero = omega arith
take_less [] (suc n) = omega arith
take_less (x ∷ l) (suc n) = omega (arith, take_less l n)

-- The share of one level in the sum before an index.
pub record StepsOn (rest above : List (List ℕ)) (level : List ℕ) (at : ℕ) : Type 0 where
  pub levels : AreLevels (first_level above) above
  pub odd : at % 2 ≡ 1 → total (take at (first_level rest)) ≡ get_or level (at - 1) 0 + total
      (take (at / 2) (first_level above))
  pub even : (at % 2 ≡ 1 → ⊥) → total (take at (first_level rest)) ≡ total (take (at / 2) (first_level above))
  pub inside : at / 2 ≤ length (first_level above)

pub steps_on : (rest above : List (List ℕ)) (level : List ℕ) (at : ℕ) → rest ≡ level ∷ above
    → AreLevels (first_level rest) rest → at ≤ length (first_level rest) → StepsOn rest above level at
steps_on rest above level at whole are below =
    let here : AreLevels level (level ∷ above) =
    subst (λ (ls : List (List ℕ)). AreLevels (first_level ls) ls) whole are in
    let under : at ≤ length level = subst (λ (ls : List (List ℕ)). at ≤ length (first_level ls)) whole below in
    let step = level_step level above here in
    record {
      levels = step.0;
      odd = λ e. ap (λ (ls : List (List ℕ)). total (take at (first_level ls))) whole ∙ odd_sum level at e under
          ∙ ap (λ xs. get_or level (at - 1) 0 + total (take (at / 2) xs)) (sym step.1);
      even = λ e. ap (λ (ls : List (List ℕ)). total (take at (first_level ls))) whole ∙ half_sum level at e under
          ∙ ap (λ xs. total (take (at / 2) xs)) (sym step.1);
      inside = subst (λ (xs : List ℕ). at / 2 ≤ length xs) (sym step.1) (half_inside level at under);
    }

-- A level that is not empty is longer than its pairs.
pub pairs_shorter : (l : List ℕ) → (l ≡ [] → ⊥) → length (pairs l) < length l
pairs_shorter [] h = absurd (h refl)
pairs_shorter (x ∷ l) h = let e = pairs_length (x ∷ l) in omega (arith, e)

pub levels_grow : (first level above : List ℕ) (items now : List (List ℕ)) → now ≡ items ++ level ∷ []
    → above ≡ pairs level
    → ((ls : List (List ℕ)) → AreLevels level ls → AreLevels first (items ++ ls)) → (ls : List (List ℕ))
    → AreLevels above ls → AreLevels first (now ++ ls)
levels_grow first level above items now e f so ls are =
    let more : AreLevels level (level ∷ ls) = (refl, subst (λ (xs : List ℕ). AreLevels xs ls) f are) in
    subst (λ (xs : List (List ℕ)). AreLevels first xs) (sym (append_assoc items (level ∷ []) ls)
    ∙ ap (λ xs. xs ++ ls) (sym e)) (so (level ∷ ls) more)

pub first_stays : (first level above : List ℕ) (items now : List (List ℕ)) → now ≡ items ++ level ∷ []
    → first_level (items ++ level ∷ []) ≡ first → first_level (now ++ above ∷ []) ≡ first
first_stays first level above [] now e f = ap (λ ls. first_level (ls ++ above ∷ [])) e ∙ f
first_stays first level above (i ∷ items) now e f = ap (λ ls. first_level (ls ++ above ∷ [])) e ∙ f

pub levels_done : (first level : List ℕ) (items : List (List ℕ)) → level ≡ []
    → first_level (items ++ level ∷ []) ≡ first
    → ((ls : List (List ℕ)) → AreLevels level ls → AreLevels first (items ++ ls))
    → AreLevels first items × (first_level items ≡ first)
levels_done first level [] e f so = (so [] e, sym e ∙ f)
levels_done first level (i ∷ items) e f so =
    (subst (λ (ls : List (List ℕ)). AreLevels first ls) (append-nil (i ∷ items)) (so [] e), f)

pub after_length : (at : ℕ) (ls : List (List ℕ)) → length (levels_after at ls) ≡ length ls
after_length at [] = refl
after_length at (l ∷ ls) = ap suc (after_length (at / 2) ls)
