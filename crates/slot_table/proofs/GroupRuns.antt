-- Groups of a table that follow each other.
use Rattle.std.proofs.Common.{◌≡◌, ◌≤◌, ◌<◌, ℕ, zero, suc, ◌+◌, ◌-◌, List, [], ◌∷◌, ◌++◌, length, length-drop, take, drop, get_or, refl, ap, ◌∙◌, sym, arith, append_assoc}
use Rattle.std.proofs.lemmas.List.{get_or-drop}
use Rattle.rt_groups.specs.declared.groups.Group.{Group}
use Rattle.slot_table.specs.TableGroups.{group_at}

pub one_longer : (gs : List Group) (k : ℕ) (d : Group) → k < length gs → take (suc k) gs ≡ take k gs ++ get_or gs k d ∷ []
one_longer [] k d inside = absurd (omega (arith, inside))
one_longer (g ∷ gs) zero d inside = refl
one_longer (g ∷ gs) (suc k) d inside = ap (λ l. g ∷ l) (one_longer gs k d (omega (arith, inside)))

-- A run with one more group.
pub run_grows : (gs : List Group) (from i : ℕ) → from ≤ i → i < length gs
    → take ((i + 1) - from) (drop from gs) ≡ take (i - from) (drop from gs) ++ group_at gs i ∷ []
run_grows gs from i low inside =
    let k : ℕ = i - from in
    let whole : from + k ≡ i = omega (arith, low) in
    let next : (i + 1) - from ≡ suc k = omega (arith, low) in
    let rest = length-drop from gs in
    let within : k < length (drop from gs) = omega (arith, rest, inside, low) in
    ap (λ n. take n (drop from gs)) next
    ∙ one_longer (drop from gs) k (group_at [] i) within
    ∙ ap (λ g. take k (drop from gs) ++ g ∷ []) (get_or-drop from gs k (group_at [] i)
    ∙ ap (λ n. get_or gs n (group_at [] i)) whole)

-- The groups after the next group of the run is appended.
pub run_pushed : (gs old before after : List Group) (g : Group) (from i : ℕ) → from ≤ i → i < length gs
    → g ≡ group_at gs i → before ≡ old ++ take (i - from) (drop from gs) → after ≡ before ++ g ∷ []
    → after ≡ old ++ take ((i + 1) - from) (drop from gs)
run_pushed gs old before after g from i low inside is run added =
    added
    ∙ ap (λ l. l ++ g ∷ []) run
    ∙ append_assoc old (take (i - from) (drop from gs)) (g ∷ [])
    ∙ ap (λ l. old ++ l) (ap (λ x. take (i - from) (drop from gs) ++ x ∷ []) is ∙ sym (run_grows gs from i low inside))
