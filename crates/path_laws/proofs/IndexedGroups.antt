-- A forest and the same forest with indexes have groups at the same paths.
use Rattle.std.proofs.Common.{◌≡◌, ℕ, zero, suc, ◌+◌, Bool, true, false, [], ◌∷◌, Option, Some, None, if◌then◌else◌, refl, ap, ◌∙◌}
use Rattle.std.specs.Option.{is_some}
use Rattle.rt_groups.specs.GroupForest.{GroupForest, End, Read, Group}
use Rattle.rt_groups.specs.Paths.{Path, GroupKey, sibling, same_sibling, Found, nth, matching_sibling, inside_of, at_path}
use Rattle.path_laws.specs.GroupPaths.{indexed_forest, number_found, IndexesAreOfFoundGroups}

-- The first forest is the second with indexes as numbers.
record HasIndexes (t u : GroupForest) : Type 0 where
  from : ℕ
  is : t ≡ (indexed_forest from u).0

-- Both lookups find no group, or groups with the same contents except for indexes.
abbrev AreAlike : Option Found → Option Found → Type 0
AreAlike None None = Unit
AreAlike None (Some g) = ⊥
AreAlike (Some f) None = ⊥
AreAlike (Some f) (Some g) = HasIndexes f.inside g.inside

matched_alike : (s : GroupKey) (n k : ℕ) (t : GroupForest)
    → AreAlike (matching_sibling s n (indexed_forest k t).0) (matching_sibling s n t)
matched_alike s n k End = tt
matched_alike s n k (Read x rest) = matched_alike s n k rest
matched_alike s n k (Group site number what inside rest) =
    by (same_sibling (sibling site what) s) n (λ m. matched_alike s m (indexed_forest (k + 1) inside).1 rest)
  where
    by : (b : Bool) (n : ℕ) → ((m : ℕ)
        → AreAlike (matching_sibling s m (indexed_forest (indexed_forest (k + 1) inside).1 rest).0)
        (matching_sibling s m rest))
        → AreAlike (if b then nth n (record { number = k; what = what; inside = (indexed_forest (k + 1) inside).0 })
        (λ j. matching_sibling s j (indexed_forest (indexed_forest (k + 1) inside).1 rest).0)
        else matching_sibling s n (indexed_forest (indexed_forest (k + 1) inside).1 rest).0)
        (if b then nth n (record { number = number; what = what; inside = inside }) (λ j. matching_sibling s j rest)
        else matching_sibling s n rest)
    by true zero later = record { from = k + 1; is = refl }
    by true (suc n) later = later n
    by false n later = later n

inside_alike : (f g : Option Found) → AreAlike f g → HasIndexes (inside_of f) (inside_of g)
inside_alike None None h = record { from = 0; is = refl }
inside_alike None (Some g) h = absurd h
inside_alike (Some f) None h = absurd h
inside_alike (Some f) (Some g) h = h

found_alike : (f g : Option Found) → AreAlike f g → is_some (number_found f) ≡ is_some g
found_alike None None h = refl
found_alike None (Some g) h = absurd h
found_alike (Some f) None h = absurd h
found_alike (Some f) (Some g) h = refl

looked_up : (p : Path) (t u : GroupForest) → HasIndexes t u
    → is_some (number_found (at_path p t)) ≡ is_some (at_path p u)
looked_up [] t u h = refl
looked_up (s ∷ []) t u h =
    ap (λ f. is_some (number_found (matching_sibling s.of s.occurrence f))) h.is
    ∙ found_alike _ _ (matched_alike s.of s.occurrence h.from u)
looked_up (s ∷ (r ∷ p)) t u h =
    ap (λ f. is_some (number_found (at_path (r ∷ p) (inside_of (matching_sibling s.of s.occurrence f))))) h.is
    ∙ looked_up (r ∷ p) _ _ (inside_alike _ _ (matched_alike s.of s.occurrence h.from u))

pub indexes_are_of_found_groups : IndexesAreOfFoundGroups
indexes_are_of_found_groups t p = looked_up p (indexed_forest 0 t).0 t (record { from = 0; is = refl })
