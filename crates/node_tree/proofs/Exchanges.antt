-- Splitting a list three times and joining the parts in another order.
use Rattle.std.proofs.Common.{◌≡◌, ℕ, ◌≤◌, List, ◌++◌, take, drop, ap, ◌∙◌, append_assoc}
use Rattle.std.proofs.lemmas.List.{take-take}
use Rattle.gap_buffer.specs.Buffer.{exchanged_list}

pub exchanged : {X : Type 0} (xs : List X) (from middle to : ℕ) → from ≤ middle → middle ≤ to
    → ((take from (take middle (take to xs)) ++ drop middle (take to xs)) ++ drop from (take middle (take to xs)))
    ++ drop to xs ≡ exchanged_list from middle to xs
exchanged xs from middle to low high =
    let mid : take middle (take to xs) ≡ take middle xs = take-take middle to xs high in
    ap (λ l. ((take from l ++ drop middle (take to xs)) ++ drop from l) ++ drop to xs) mid
    ∙ ap (λ l. ((l ++ drop middle (take to xs)) ++ drop from (take middle xs)) ++ drop to xs)
    (take-take from middle xs low)
    ∙ append_assoc (take from xs ++ drop middle (take to xs)) (drop from (take middle xs)) (drop to xs)
    ∙ append_assoc (take from xs) (drop middle (take to xs)) (drop from (take middle xs) ++ drop to xs)
