-- Matching among old siblings looks up paths, and each path of a forest finds its own group.
use Rattle.std.proofs.Common.{◌≡◌, ℕ, suc, ◌+◌, Bool, true, false, List, [], ◌∷◌, ◌++◌, map, Option, Some, None, if◌then◌else◌, refl, ap, sym, ◌∙◌, arith}
use Rattle.std.specs.Prelude.{slice_get}
use Rattle.std.specs.Option.{option_map}
use Rattle.rt_groups.specs.GroupForest.{GroupForest, End, Read, Group, GroupKind}
use Rattle.rt_groups.specs.Paths.{Path, PathStep, GroupKey, sibling, same_sibling, step, occurrence, Found, nth, matching_sibling, inside_of, at_path}
use Rattle.path_laws.specs.GroupPaths.{paths, indexed_forest, number_found, index_at, matched_numbers, EachPathFindsItsGroup, MatchingFindsTheOldPath}
use Rattle.path_laws.specs.SiblingEquality.{itself}
use Rattle.path_laws.proofs.Indexes.{same_item, no_item, numbers, map-append, get-map, index_is, indexed_paths}

pub map-map : {X Y Z : Type 0} (g : Y → Z) (f : X → Y) (xs : List X) → map g (map f xs) ≡ map (λ x. g (f x)) xs
map-map g f [] = refl
map-map g f (x ∷ xs) = ap (λ l. g (f x) ∷ l) (map-map g f xs)

map-same : {X Y : Type 0} (f g : X → Y) → ((x : X) → f x ≡ g x) → (xs : List X) → map f xs ≡ map g xs
map-same f g e [] = refl
map-same f g e (x ∷ xs) = ap (λ y. y ∷ map f xs) (e x) ∙ ap (λ l. g x ∷ l) (map-same f g e xs)

-- No path of a group is empty.
map-paths : {X : Type 0} (f g : Path → X) → ((s : PathStep) (p : Path) → f (s ∷ p) ≡ g (s ∷ p))
    → (seen : List GroupKey) (t : GroupForest) → map f (paths seen t) ≡ map g (paths seen t)
map-paths f g e seen End = refl
map-paths f g e seen (Read x rest) = map-paths f g e seen rest
map-paths f g e seen (Group site n what inside rest) =
    let here : PathStep = step site what seen in
    let ps : List Path = map (λ p. here ∷ p) (paths [] inside) in
    let later : List Path = paths (sibling site what ∷ seen) rest in
    ap (λ x. x ∷ map f (ps ++ later)) (e here [])
    ∙ ap (λ l. g (here ∷ []) ∷ l) (
    map-append f ps later
    ∙ ap (λ l. l ++ map f later) (map-map f (λ p. here ∷ p) (paths [] inside)
    ∙ map-same (λ p. f (here ∷ p)) (λ p. g (here ∷ p)) (e here) (paths [] inside)
    ∙ sym (map-map g (λ p. here ∷ p) (paths [] inside)))
    ∙ ap (λ l. map g ps ++ l) (map-paths f g e (sibling site what ∷ seen) rest)
    ∙ sym (map-append g ps later)
    )

matched_by_path : (old : GroupForest) (seen : List GroupKey) (t : GroupForest)
    → map (λ p. number_found (at_path p old)) (paths seen t) ≡ matched_numbers old seen t
matched_by_path old seen End = refl
matched_by_path old seen (Read x rest) = matched_by_path old seen rest
matched_by_path old seen (Group site n what inside rest) =
    let here : PathStep = step site what seen in
    let found : Option Found = matching_sibling (sibling site what) (occurrence (sibling site what) seen) old in
    let ps : List Path = map (λ p. here ∷ p) (paths [] inside) in
    let later : List Path = paths (sibling site what ∷ seen) rest in
    let deeper : map (λ p. number_found (at_path p old)) ps ≡ matched_numbers (inside_of found) [] inside =
    map-map (λ p. number_found (at_path p old)) (λ p. here ∷ p) (paths [] inside)
    ∙ map-paths (λ p. number_found (at_path (here ∷ p) old)) (λ p. number_found (at_path p (inside_of found)))
    (λ s p. refl) [] inside
    ∙ matched_by_path (inside_of found) [] inside in
    ap (λ l. number_found found ∷ l) (
    map-append (λ p. number_found (at_path p old)) ps later
    ∙ ap (λ l. l ++ map (λ p. number_found (at_path p old)) later) deeper
    ∙ ap (λ l. matched_numbers (inside_of found) [] inside ++ l) (matched_by_path old (sibling site what ∷ seen) rest)
    )

pub matching_finds_the_old_path : MatchingFindsTheOldPath
matching_finds_the_old_path old new = matched_by_path (indexed_forest 0 old).0 [] new

-- After the siblings `seen`, the siblings `t` are left of `whole`.
abbrev Follows : GroupForest → List GroupKey → GroupForest → Type 0
Follows whole seen t = (s : GroupKey) (n : ℕ)
    → matching_sibling s (occurrence s seen + n) whole ≡ matching_sibling s n t

all_follow : (t : GroupForest) → Follows t [] t
all_follow t s n = let e : 0 + n ≡ n = omega arith in ap (λ m. matching_sibling s m t) e

next_follows : (whole inside rest : GroupForest) (seen : List GroupKey) (site k : ℕ) (what : GroupKind)
    → Follows whole seen (Group site k what inside rest) → Follows whole (sibling site what ∷ seen) rest
next_follows whole inside rest seen site k what h t n = by (same_sibling (sibling site what) t) (h t)
  where
    by : (b : Bool) → ((m : ℕ) → matching_sibling t (occurrence t seen + m) whole
        ≡ (if b then nth m (record { number = k; what = what; inside = inside }) (λ j. matching_sibling t j rest)
        else matching_sibling t m rest))
        → matching_sibling t (((if b then 1 else 0) + occurrence t seen) + n) whole ≡ matching_sibling t n rest
    by true g = let sum : (1 + occurrence t seen) + n ≡ occurrence t seen + suc n = omega arith in
        ap (λ m. matching_sibling t m whole) sum ∙ g (suc n)
    by false g = let sum : (0 + occurrence t seen) + n ≡ occurrence t seen + n = omega arith in
        ap (λ m. matching_sibling t m whole) sum ∙ g n

each_is_matched : (whole : GroupForest) (seen : List GroupKey) (t : GroupForest) → Follows whole seen t
    → matched_numbers whole seen t ≡ map Some (numbers t)
each_is_matched whole seen End h = refl
each_is_matched whole seen (Read x rest) h = each_is_matched whole seen rest h
each_is_matched whole seen (Group site k what inside rest) h =
    let s : GroupKey = sibling site what in
    let group : Found = record { number = k; what = what; inside = inside } in
    let none_more : occurrence s seen ≡ occurrence s seen + 0 = omega arith in
    let found : matching_sibling s (occurrence s seen) whole ≡ Some group =
    ap (λ m. matching_sibling s m whole) none_more ∙ h s 0
    ∙ ap (λ b. if b then Some group else matching_sibling s 0 rest) (itself s) in
    ap (λ f. number_found f ∷ (matched_numbers (inside_of f) [] inside ++ matched_numbers whole (s ∷ seen) rest)) found
    ∙ ap (λ l. Some k ∷ (l ++ matched_numbers whole (s ∷ seen) rest))
    (each_is_matched inside [] inside (all_follow inside))
    ∙ ap (λ l. Some k ∷ (map Some (numbers inside) ++ l))
    (each_is_matched whole (s ∷ seen) rest (next_follows whole inside rest seen site k what h))
    ∙ ap (λ l. Some k ∷ l) (sym (map-append Some (numbers inside) (numbers rest)))

found_at : (t : GroupForest) (i : ℕ) (found : Option (Option ℕ)) (ns : Option ℕ) (a : Option ℕ) → found ≡ Some a
    → found ≡ option_map Some ns → ((m : ℕ) → ns ≡ Some m → m ≡ i) → a ≡ Some i
found_at t i found None a e f h = absurd (no_item (sym f ∙ e))
found_at t i found (Some m) a e f h = same_item (sym e ∙ f) ∙ ap Some (h m refl)

pub each_path_finds_its_group : EachPathFindsItsGroup
each_path_finds_its_group t i p at =
    let indexed : GroupForest = (indexed_forest 0 t).0 in
    let whole : map (index_at t) (paths [] t) ≡ map Some (numbers indexed) =
    ap (λ l. map (index_at t) l) (sym (indexed_paths 0 [] t)) ∙ matched_by_path indexed [] indexed
    ∙ each_is_matched indexed [] indexed (all_follow indexed) in
    found_at t i (slice_get (map (index_at t) (paths [] t)) i) (slice_get (numbers indexed) i) (index_at t p)
    (get-map (index_at t) (paths [] t) i ∙ ap (λ o. option_map (index_at t) o) at)
    (ap (λ l. slice_get l i) whole ∙ get-map Some (numbers indexed) i)
    (index_is t i)
