-- Rotating the middle of a list exchanges its two parts.
use Rattle.std.proofs.Common.{◌≡◌, ◌≤◌, ℕ, ◌+◌, ◌-◌, List, ◌++◌, take, drop, ap, sym, ◌∙◌, arith, append_assoc}
use Rattle.std.proofs.lemmas.List.{take-take, drop-drop, drop-take}
use Rattle.gap_buffer.specs.Buffer.{exchanged_list}

pub exchange_is : {X : Type 0} (xs before both turned after : List X) (f m t : ℕ) → f ≤ m → m ≤ t
    → before ≡ take f (take t xs) → both ≡ drop f (take t xs) → turned ≡ drop (m - f) both ++ take (m - f) both
    → after ≡ drop t xs
    → (before ++ turned) ++ after ≡ exchanged_list f m t xs
exchange_is xs before both turned after f m t low high first middle turning last =
    let whole : f + (m - f) ≡ m = omega (arith, low) in
    let front = first ∙ take-take f t xs (omega (arith, low, high)) in
    let one = ap (λ l. drop (m - f) l) middle ∙ drop-drop (m - f) f (take t xs) ∙ ap (λ n. drop n (take t xs)) whole in
    let other = ap (λ l. take (m - f) l) middle ∙ sym (drop-take f (m - f) (take t xs))
    ∙ ap (λ n. drop f (take n (take t xs))) whole ∙ ap (λ l. drop f l) (take-take m t xs high) in
    let both_turned = turning ∙ ap (λ l. l ++ take (m - f) both) one ∙ ap (λ l. drop m (take t xs) ++ l) other in
    append_assoc before turned after
    ∙ ap (λ l. l ++ (turned ++ after)) front
    ∙ ap (λ l. take f xs ++ (l ++ after)) both_turned
    ∙ ap (λ l. take f xs ++ l) (append_assoc (drop m (take t xs)) (drop f (take m xs)) after)
    ∙ ap (λ l. take f xs ++ (drop m (take t xs) ++ (drop f (take m xs) ++ l))) last
