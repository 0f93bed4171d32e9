-- Prefixes of whole characters.
use Rattle.std.proofs.Common.{◌≡◌, ◌≤◌, ◌<◌, ◌⊎◌, inl, inr, subst, ℕ, zero, suc, ◌+◌, ◌-◌, Bool, true, false, List, [], ◌++◌, length, take, refl, sym, ap, ◌∙◌, arith, length-append}
use Rattle.std.specs.Str.{IsUtf8, is_utf8, IsCharBoundary}
use Rattle.std.specs.Prelude.{if◌then◌else◌}
use Rattle.std.proofs.Math.Seq.{take-append-add, take-append_seam, drop-append_seam}
use Rattle.std.proofs.lemmas.List.{take_all, length-take, append-nil}
use Rattle.std.proofs.lemmas.Str.{IsUtf8-nil, IsUtf8-take, IsUtf8-drop, IsUtf8-append, IsUtf8-from_is_utf8, is_utf8-from_IsUtf8, IsCharBoundary-from_take, IsCharBoundary-end}
use Rattle.std.proofs.lemmas.Bool.{false_from_ne_true}
use Rattle.rt_values.specs.Operators.{front, joined_text}

pub le_or_gt : (m n : ℕ) → (m ≤ n) ⊎ (n < m)
le_or_gt m n = grind arith

by_le_or_gt : {P : Type 0} (m n : ℕ) → (m ≤ n → P) → (n < m → P) → P
by_le_or_gt {P = P} m n f g = by (le_or_gt m n)
  where
    by : (m ≤ n) ⊎ (n < m) → P
    by (inl le) = f le
    by (inr gt) = g gt

-- A prefix that is UTF-8 is the result itself.
front_at : (n : ℕ) (t : List ℕ) → is_utf8 (take n t) ≡ true → front n t ≡ take n t
unfolding front
front_at zero t whole = refl
front_at (suc n) t whole = rw whole refl

front_before : (n : ℕ) (t : List ℕ) → is_utf8 (take (suc n) t) ≡ false → front (suc n) t ≡ front n t
unfolding front
front_before n t cut = rw cut refl

length-front : (n : ℕ) (t : List ℕ) → length (front n t) ≤ n
unfolding front
length-front zero t = omega arith
length-front (suc n) t = by (is_utf8 (take (suc n) t)) (length-front n t)
  where
    by : (b : Bool) → length (front n t) ≤ n → length (if b then take (suc n) t else front n t) ≤ suc n
    by true less = let l = length-take (suc n) t in omega (arith, l)
    by false less = omega (arith, less)

-- The result ends at the last character boundary at or before the limit.
pub front-is : (n r : ℕ) (t : List ℕ) → IsUtf8 t → r ≤ n → IsCharBoundary t r
    → ((i : ℕ) → r < i → i ≤ n → ¬ (IsCharBoundary t i)) → take r t ≡ front n t
front-is zero r t utf8 before boundary last =
    let start : r ≡ 0 = omega (arith, before) in
    ap (λ m. take m t) start ∙ sym (front_at 0 t (is_utf8-from_IsUtf8 [] IsUtf8-nil))
front-is (suc n) r t utf8 before boundary last =
    by_le_or_gt (suc n) r here (earlier (λ le. front-is n r t utf8 le boundary
    (λ i above upto. last i above (omega (arith, upto)))))
  where
    here : suc n ≤ r → take r t ≡ front (suc n) t
    here late =
        let at_end : r ≡ suc n = omega (arith, before, late) in
        ap (λ m. take m t) at_end ∙ sym (front_at (suc n) t
        (ap (λ m. is_utf8 (take m t)) (sym at_end) ∙ is_utf8-from_IsUtf8 _ (IsUtf8-take t r utf8 boundary)))

    past : length t ≤ n → r < suc n → take r t ≡ front (suc n) t
    past short lt = by_le_or_gt (length t) r
        (λ le. let all : take r t ≡ t = take_all r t le in
        let full : take (suc n) t ≡ t = take_all (suc n) t (omega (arith, short)) in
        all ∙ sym full ∙ sym (front_at (suc n) t (ap is_utf8 full ∙ is_utf8-from_IsUtf8 t utf8)))
        (λ gt. absurd (last (length t) gt (omega (arith, short)) (IsCharBoundary-end t)))

    inside : take r t ≡ front n t → suc n ≤ length t → r < suc n → take r t ≡ front (suc n) t
    inside shorter long lt =
        let cut : is_utf8 (take (suc n) t) ≡ false =
        false_from_ne_true _ (λ e. last (suc n) lt (omega arith)
        (IsCharBoundary-from_take t (suc n) utf8 long (IsUtf8-from_is_utf8 _ e))) in
        shorter ∙ sym (front_before n t cut)

    earlier : (r ≤ n → take r t ≡ front n t) → r < suc n → take r t ≡ front (suc n) t
    earlier shorter lt = by_le_or_gt (suc n) (length t) (λ le. inside (shorter (omega (arith, lt))) le lt)
        (λ gt. past (omega (arith, gt)) lt)

pub same_truths : (x y : Bool) → (x ≡ true → y ≡ true) → (y ≡ true → x ≡ true) → x ≡ y
same_truths true y f g = sym (f refl)
same_truths false true f g = g refl
same_truths false false f g = refl

utf8-behind : (s t : List ℕ) → IsUtf8 s → is_utf8 (s ++ t) ≡ is_utf8 t
utf8-behind s t utf8 =
    same_truths _ _
    (λ e.
    let all : IsUtf8 (s ++ t) = IsUtf8-from_is_utf8 _ e in
    let seam : IsCharBoundary (s ++ t) (length s) =
    IsCharBoundary-from_take _ _ all (omega (arith, length-append s t))
    (subst IsUtf8 (sym (take-append_seam s t)) utf8) in
    is_utf8-from_IsUtf8 t (subst IsUtf8 (drop-append_seam s t) (IsUtf8-drop _ _ all seam)))
    (λ e. is_utf8-from_IsUtf8 _ (IsUtf8-append s t utf8 (IsUtf8-from_is_utf8 t e)))

-- A prefix of a text after whole characters consists of them and a prefix of the text.
front-behind : (s t : List ℕ) (n : ℕ) → IsUtf8 s → front (length s + n) (s ++ t) ≡ s ++ front n t
front-behind s t zero utf8 =
    let seam : take (length s + 0) (s ++ t) ≡ s = ap (λ m. take m (s ++ t)) (omega arith) ∙ take-append_seam s t in
    front_at _ _ (ap is_utf8 seam ∙ is_utf8-from_IsUtf8 s utf8) ∙ seam ∙ sym (append-nil s)
    ∙ ap (λ l. s ++ l) (sym (front_at 0 t (is_utf8-from_IsUtf8 [] IsUtf8-nil)))
front-behind s t (suc n) utf8 = by (front-behind s t n utf8) (is_utf8 (take (suc n) t)) refl
  where
    one_more : length s + suc n ≡ suc (length s + n)
    one_more = omega arith

    reach : take (length s + suc n) (s ++ t) ≡ s ++ take (suc n) t
    reach = take-append-add s t (suc n)

    told : is_utf8 (take (length s + suc n) (s ++ t)) ≡ is_utf8 (take (suc n) t)
    told = ap is_utf8 reach ∙ utf8-behind s (take (suc n) t) utf8

    by : front (length s + n) (s ++ t) ≡ s ++ front n t → (b : Bool) → is_utf8 (take (suc n) t) ≡ b
        → front (length s + suc n) (s ++ t) ≡ s ++ front (suc n) t
    by shorter true e = front_at _ _ (told ∙ e) ∙ reach ∙ ap (λ l. s ++ l) (sym (front_at (suc n) t e))
    by shorter false e =
        ap (λ m. front m (s ++ t)) one_more
        ∙ front_before _ _ (ap (λ m. is_utf8 (take m (s ++ t))) (sym one_more) ∙ told ∙ e) ∙ shorter
        ∙ ap (λ l. s ++ l) (sym (front_before n t e))

joined_prefix : (s t : List ℕ) (n : ℕ) → IsUtf8 s → length s ≤ n → s ++ front (n - length s) t ≡ front n (s ++ t)
joined_prefix s t n utf8 fits =
    let whole : length s + (n - length s) ≡ n = omega (arith, fits) in
    sym (front-behind s t (n - length s) utf8) ∙ ap (λ m. front m (s ++ t)) whole

-- One text and as much of the other as the limit allows.
pub joined_text-is : (all front_part more s t : List ℕ) → IsUtf8 front_part → front_part ≡ s → all ≡ front_part ++ more
    → more ≡ front (4096 - length front_part) t → length front_part ≤ 4096
    → (all ≡ joined_text s t) × (length all ≤ 4096)
joined_text-is all front_part more s t utf8 same is_all is_more fits =
    let whole : all ≡ joined_text front_part t = is_all ∙ ap (λ l. front_part ++ l) is_more
    ∙ joined_prefix front_part t 4096 utf8 fits in
    let short = length-front 4096 (front_part ++ t) in
    (whole ∙ ap (λ l. joined_text l t) same, omega (arith, ap length whole, short))
