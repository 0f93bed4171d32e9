-- Lemmas about lists to which both changes only added items.
use Rattle.std.proofs.Common.{◌≡◌, ◌≤◌, ◌+◌, ℤ, true, List, ◌++◌, length, take, drop, ap, ◌∙◌, arith, length-append, length-drop, ◌-◌, Some}
use Rattle.std.specs.Prelude.{nat_le}
use Rattle.std.specs.List.{starts_with}
use Rattle.std.specs.Ordering.{int_eq}
use Rattle.std.proofs.lemmas.List.{take_all}
use Rattle.rt_values.specs.declared.value.Value.TheVariants.{Ints}
use Rattle.snap_policy.specs.Table.{appended_list, merged_items}

-- The merged list, if both lists begin with the previous list and the result fits.
pub append_is : (previous current applied merged : List ℤ) → starts_with int_eq current previous ≡ true
    → starts_with int_eq applied previous ≡ true
    → length current + length (drop (length previous) applied) ≤ 4096
    → merged ≡ take 4096 (current ++ drop (length previous) applied)
    → Some (Ints merged) ≡ merged_items previous current applied
append_is previous current applied merged begins goes_on fits is_merged =
    let all : length (appended_list previous current applied) ≤ 4096 =
    omega (arith, fits, length-append current (drop (length previous) applied)) in
    let room : nat_le (length (appended_list previous current applied)) 4096 ≡ true = grind (arith, all) in
    rw (begins, goes_on, room) (ap (λ l. Some (Ints l))
    (is_merged ∙ take_all 4096 (appended_list previous current applied) all))

-- The slice after a prefix has all later items.
pub behind_front : (front l : List ℤ) → take (length l - length front) (drop (length front) l) ≡ drop (length front) l
behind_front front l = take_all _ _ (omega (arith, length-drop (length front) l))
