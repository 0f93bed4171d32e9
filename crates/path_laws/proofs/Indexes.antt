-- The numbers of a forest whose groups are indexed, and items of joined lists.
use Rattle.std.proofs.Common.{◌≡◌, ℕ, zero, suc, ◌+◌, List, [], ◌∷◌, ◌++◌, map, length, length-append, Some, None, refl, ap, sym, ◌∙◌, arith}
use Rattle.std.proofs.lemmas.Option.{none-some, same_Some}
use Rattle.std.specs.Prelude.{slice_get}
use Rattle.std.specs.Option.{option_map}
use Rattle.std.proofs.lemmas.List.{length-map}
use Rattle.rt_groups.specs.GroupForest.{GroupForest, End, Read, Group, how_many}
use Rattle.rt_groups.specs.PreorderGroups.{preorder}
use Rattle.rt_groups.specs.Paths.{Path, PathStep, GroupKey, sibling, step}
use Rattle.path_laws.specs.GroupPaths.{paths, indexed_forest, EachGroupHasAPath}

pub same_item : {X : Type 0} {x y : X} → Some x ≡ Some y → x ≡ y
same_item {X} {x} {y} e = same_Some x y e

pub no_item : {X : Type 0} {x : X} → None ≡ Some x → ⊥
no_item {X} {x} e = none-some x e

-- The numbers of the groups in preorder.
abbrev pub numbers : GroupForest → List ℕ
numbers End = []
numbers (Read x rest) = numbers rest
numbers (Group site number what inside rest) = number ∷ (numbers inside ++ numbers rest)

-- `n` numbers from `k` on.
abbrev pub count_from : ℕ → ℕ → List ℕ
count_from k zero = []
count_from k (suc n) = k ∷ count_from (k + 1) n

count-join : (k a b : ℕ) → count_from k (a + b) ≡ count_from k a ++ count_from (k + a) b
count-join k zero b =
    let first : 0 + b ≡ b = omega arith in
    let e : k ≡ k + 0 = omega arith in
    ap (λ n. count_from k n) first ∙ ap (λ n. count_from n b) e
count-join k (suc a) b =
    let first : suc a + b ≡ suc (a + b) = omega arith in
    let e : (k + 1) + a ≡ k + suc a = omega arith in
    ap (λ n. count_from k n) first
    ∙ ap (λ l. k ∷ l) (count-join (k + 1) a b ∙ ap (λ n. count_from (k + 1) a ++ count_from n b) e)

next_index : (k : ℕ) (t : GroupForest) → (indexed_forest k t).1 ≡ k + how_many t
next_index k End = omega arith
next_index k (Read x rest) = next_index k rest
next_index k (Group site n what inside rest) =
    let within = next_index (k + 1) inside in
    let more = next_index (indexed_forest (k + 1) inside).1 rest in
    omega (arith, within, more)

indexed_numbers : (k : ℕ) (t : GroupForest) → numbers (indexed_forest k t).0 ≡ count_from k (how_many t)
indexed_numbers k End = refl
indexed_numbers k (Read x rest) = indexed_numbers k rest
indexed_numbers k (Group site n what inside rest) =
    let within : List ℕ = numbers (indexed_forest (k + 1) inside).0 in
    let one_more : suc (how_many inside + how_many rest) ≡ 1 + (how_many inside + how_many rest) = omega arith in
    ap (λ l. k ∷ (within ++ l)) (indexed_numbers (indexed_forest (k + 1) inside).1 rest)
    ∙ ap (λ l. k ∷ (l ++ count_from (indexed_forest (k + 1) inside).1 (how_many rest))) (indexed_numbers (k + 1) inside)
    ∙ ap (λ m. k ∷ (count_from (k + 1) (how_many inside) ++ count_from m (how_many rest))) (next_index (k + 1) inside)
    ∙ ap (λ l. k ∷ l) (sym (count-join (k + 1) (how_many inside) (how_many rest)))
    ∙ ap (λ n. count_from k n) one_more

pub indexed_paths : (k : ℕ) (seen : List GroupKey) (t : GroupForest) → paths seen (indexed_forest k t).0 ≡ paths seen t
indexed_paths k seen End = refl
indexed_paths k seen (Read x rest) = indexed_paths k seen rest
indexed_paths k seen (Group site n what inside rest) =
    let here : PathStep = step site what seen in
    let later : List Path = paths (sibling site what ∷ seen)
    (indexed_forest (indexed_forest (k + 1) inside).1 rest).0 in
    ap (λ l. (here ∷ []) ∷ (map (λ p. here ∷ p) l ++ later)) (indexed_paths (k + 1) [] inside)
    ∙ ap (λ l. (here ∷ []) ∷ (map (λ p. here ∷ p) (paths [] inside) ++ l))
    (indexed_paths (indexed_forest (k + 1) inside).1 (sibling site what ∷ seen) rest)

-- An item of a list of counted numbers is its index from `k` on.
counted : (k n i m : ℕ) → slice_get (count_from k n) i ≡ Some m → m ≡ k + i
counted k zero i m e = absurd (no_item e)
counted k (suc n) zero m e = let same : k ≡ m = same_item e in omega (arith, same)
counted k (suc n) (suc i) m e = let later = counted (k + 1) n i m e in omega (arith, later)

-- Each index of a group is its number in the indexed forest.
pub index_is : (t : GroupForest) (i m : ℕ) → slice_get (numbers (indexed_forest 0 t).0) i ≡ Some m → m ≡ i
index_is t i m e = let same = counted 0 (how_many t) i m (ap (λ l. slice_get l i) (sym (indexed_numbers 0 t)) ∙ e) in
    omega (arith, same)

pub get-map : {X Y : Type 0} (f : X → Y) (xs : List X) (i : ℕ) → slice_get (map f xs) i ≡ option_map f (slice_get xs i)
get-map f [] i = refl
get-map f (x ∷ xs) zero = refl
get-map f (x ∷ xs) (suc i) = get-map f xs i

pub get-first : {X : Type 0} (xs ys : List X) (x : X) (i : ℕ) → slice_get xs i ≡ Some x
    → slice_get (xs ++ ys) i ≡ Some x
get-first [] ys x i e = absurd (no_item e)
get-first (y ∷ xs) ys x zero e = e
get-first (y ∷ xs) ys x (suc i) e = get-first xs ys x i e

pub get-second : {X : Type 0} (xs ys : List X) (i : ℕ) → slice_get (xs ++ ys) (length xs + i) ≡ slice_get ys i
get-second [] ys i = let e : 0 + i ≡ i = omega arith in ap (λ n. slice_get ys n) e
get-second (x ∷ xs) ys i = let e : suc (length xs) + i ≡ suc (length xs + i) = omega arith in
    ap (λ n. slice_get (x ∷ (xs ++ ys)) n) e ∙ get-second xs ys i

pub map-append : {X Y : Type 0} (f : X → Y) (xs ys : List X) → map f (xs ++ ys) ≡ map f xs ++ map f ys
map-append f [] ys = refl
map-append f (x ∷ xs) ys = ap (λ l. f x ∷ l) (map-append f xs ys)

-- There are as many paths as numbers, and as many as groups.
pub path_count : (seen : List GroupKey) (t : GroupForest) → length (paths seen t) ≡ length (numbers t)
path_count seen End = refl
path_count seen (Read x rest) = path_count seen rest
path_count seen (Group site n what inside rest) =
    let here : PathStep = step site what seen in
    let one = length-append (map (λ (p : Path). here ∷ p) (paths [] inside)) (paths (sibling site what ∷ seen) rest) in
    let two = length-append (numbers inside) (numbers rest) in
    let three = length-map (paths [] inside) (λ (p : Path). here ∷ p) in
    let four = path_count [] inside in
    let five = path_count (sibling site what ∷ seen) rest in
    omega (arith, one, two, three, four, five)

group_count : (d : ℕ) (t : GroupForest) → length (numbers t) ≡ length (preorder d t)
group_count d End = refl
group_count d (Read x rest) = group_count d rest
group_count d (Group site n what inside rest) =
    let one = length-append (numbers inside) (numbers rest) in
    let two = length-append (preorder (d + 1) inside) (preorder d rest) in
    let three = group_count (d + 1) inside in
    let four = group_count d rest in
    omega (arith, one, two, three, four)

pub each_group_has_a_path : EachGroupHasAPath
each_group_has_a_path t = path_count [] t ∙ group_count 0 t
