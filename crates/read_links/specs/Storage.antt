-- Internal: the storage of links. No public clause cites this module.
use Rattle.std.specs.Prelude.{ℕ, ◌≡◌, ◌+◌, ◌≤◌, min, nat_eq, true, List, [], ◌∷◌, length, map, Some, is_some, if◌then◌else◌}
use Rattle.std.specs.Map.{lookup}
use Rattle.read_links.specs.LinkLists.{ends_with}

-- The entries of a map whose values are lists, as links.
abbrev pub entry_links : {V : Type 0} → (V → List ℕ) → List (ℕ × V) → List (ℕ × List ℕ)
entry_links items es = map (λ e. (e.0, items e.1)) es

-- The least spare capacity of the lists, or the bound if all have more.
abbrev pub least_spare : {X : Type 0} → (X → ℕ) → ℕ → List X → ℕ
least_spare room bound [] = bound
least_spare room bound (x ∷ xs) = min (room x) (least_spare room bound xs)

-- Each list has at least this spare capacity.
abbrev pub AllHaveSpare : {X : Type 0} → (X → ℕ) → ℕ → List X → Type 0
AllHaveSpare room n [] = Unit
AllHaveSpare room n (x ∷ xs) = (n ≤ room x) × AllHaveSpare room n xs

-- The number of pairs that can be put without memory, for a map with this spare capacity and these entries, and a
-- pool of lists for new entries.
abbrev pub links_spare : {V : Type 0} → (V → ℕ) → ℕ → List (ℕ × V) → List V → ℕ
links_spare room map_spare es pool =
    least_spare (λ e. room e.1) (least_spare room (min map_spare (length pool)) pool) es

-- The scope s can be put with the object x without memory if x has a list: the list has spare capacity or ends with s.
abbrev pub IsReady : {V : Type 0} → (V → List ℕ) → (V → ℕ) → ℕ → List (ℕ × V) → ℕ → Type 0
IsReady {V} items room s es x =
    (v : V) → lookup (nat_eq x) es ≡ Some v → room v ≡ 0 → ends_with s (items v) ≡ true

-- The scope s can be put without memory with each of the objects that has a list.
abbrev pub AreReady : {V : Type 0} → (V → List ℕ) → (V → ℕ) → ℕ → List (ℕ × V) → List ℕ → Type 0
AreReady items room s es [] = Unit
AreReady items room s es (x ∷ xs) = IsReady items room s es x × AreReady items room s es xs

-- The number of the objects without a list. An object that repeats is counted each time.
abbrev pub count_new : {V : Type 0} → List ℕ → List (ℕ × V) → ℕ
count_new [] es = 0
count_new (x ∷ xs) es = (if is_some (lookup (nat_eq x) es) then 0 else 1) + count_new xs es

-- The scope s can be put with each of the objects without memory, for a map with this spare capacity and these entries,
-- and a pool of lists for new entries.
pub record HasRoomFor {V : Type 0} (items : V → List ℕ) (room : V → ℕ) (s : ℕ) (xs : List ℕ) (map_spare : ℕ)
    (es : List (ℕ × V)) (pool : List V) : Type 0 where
  pub lists : AreReady items room s es xs
  pub map : count_new xs es ≤ map_spare
  pub count : count_new xs es ≤ length pool
  pub ready : AllHaveSpare room 1 pool
