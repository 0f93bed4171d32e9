-- The spare capacity of links.
use Rattle.std.proofs.Common.{◌≡◌, ◌≤◌, ◌<◌, ℕ, zero, suc, ◌+◌, min, nat_eq, Bool, true, false, List, [], ◌∷◌, ◌++◌, length, Some, cond, if◌then◌else◌, ap, subst, arith}
use Rattle.std.specs.Prelude.{Result, Ok, Err, OnOk, OnErr}
use Rattle.std.proofs.Math.Nat.{min-le_left, min-le_right, le-min}
use Rattle.std.proofs.lemmas.Option.{none-some, same_Some}
use Rattle.std.specs.Prelude.{slice_get}
use Rattle.std.specs.Map.{lookup, set_value, values_of}
use Rattle.indexmap.specs.IndexMap.{insert_entry, set_value_at}
use Rattle.read_links.specs.Storage.{least_spare, AllHaveSpare, links_spare}

least_is : {X : Type 0} (room : X → ℕ) (n b : ℕ) (xs : List X) → n ≤ b → AllHaveSpare room n xs
    → n ≤ least_spare room b xs
least_is room n b [] le all = le
least_is room n b (x ∷ xs) le all = le-min all.0 (least_is room n b xs le all.1)

below_least : {X : Type 0} (room : X → ℕ) (n b : ℕ) (xs : List X) → n ≤ least_spare room b xs
    → (n ≤ b) × AllHaveSpare room n xs
below_least room n b [] le = (le, tt)
below_least room n b (x ∷ xs) le =
    let left = min-le_left (room x) (least_spare room b xs) in
    let right = min-le_right (room x) (least_spare room b xs) in
    let later = below_least room n b xs (omega (arith, le, right)) in
    (later.0, (omega (arith, le, left), later.1))

-- The map, the pool and the lists have this spare capacity.
pub record HaveSpare {V : Type 0} (room : V → ℕ) (n map_spare : ℕ) (es : List (ℕ × V)) (pool : List V) : Type 0 where
  pub map : n ≤ map_spare
  pub count : n ≤ length pool
  pub ready : AllHaveSpare room n pool
  pub lists : AllHaveSpare (λ e. room e.1) n es

pub spare_is : {V : Type 0} (room : V → ℕ) (n s : ℕ) (es : List (ℕ × V)) (pool : List V) → HaveSpare room n s es pool
    → n ≤ links_spare room s es pool
spare_is room n s es pool h = least_is (λ e. room e.1) n (least_spare room (min s (length pool)) pool) es
    (least_is room n (min s (length pool)) pool (le-min h.map h.count) h.ready) h.lists

pub below_spare : {V : Type 0} (room : V → ℕ) (n s : ℕ) (es : List (ℕ × V)) (pool : List V)
    → n ≤ links_spare room s es pool → HaveSpare room n s es pool
below_spare room n s es pool le =
    let outer = below_least (λ e. room e.1) n (least_spare room (min s (length pool)) pool) es le in
    let inner = below_least room n (min s (length pool)) pool outer.0 in
    let left = min-le_left s (length pool) in
    let right = min-le_right s (length pool) in
    let both = inner.0 in
    record { map = omega (arith, both, left); count = omega (arith, both, right); ready = inner.1; lists = outer.1 }

-- The number `a` exceeds `b` by at most one if each number below `a` is at most `b`.
pub falls_by_one : (a b : ℕ) → ((n : ℕ) → suc n ≤ a → n ≤ b) → a ≤ b + 1
falls_by_one zero b h = omega arith
falls_by_one (suc a) b h = let le = h a (omega arith) in omega (arith, le)

pub fewer : {X : Type 0} (room : X → ℕ) (n m : ℕ) (xs : List X) → n ≤ m → AllHaveSpare room m xs
    → AllHaveSpare room n xs
fewer room n m [] le all = tt
fewer room n m (x ∷ xs) le all = (let first = all.0 in omega (arith, le, first), fewer room n m xs le all.1)

-- Lists that have spare capacity for as many scopes as there are lists have some.
pub any_has_spare : {X : Type 0} (room : X → ℕ) (n : ℕ) (xs : List X) → length xs ≤ n → AllHaveSpare room n xs
    → AllHaveSpare room 1 xs
any_has_spare room n [] le all = tt
any_has_spare room n (x ∷ xs) le all = fewer room 1 n (x ∷ xs) (omega (arith, le)) all

pub last_has_spare : {X : Type 0} (room : X → ℕ) (n : ℕ) (xs : List X) (y : X) → AllHaveSpare room n (xs ++ y ∷ [])
    → AllHaveSpare room n xs × (n ≤ room y)
last_has_spare room n [] y all = (tt, all.0)
last_has_spare room n (x ∷ xs) y all = let later = last_has_spare room n xs y all.1 in ((all.0, later.0), later.1)

pub pushed_has_spare : {X : Type 0} (room : X → ℕ) (n : ℕ) (xs : List X) (y : X) → AllHaveSpare room n xs → n ≤ room y
    → AllHaveSpare room n (xs ++ y ∷ [])
pushed_has_spare room n [] y all le = (le, tt)
pushed_has_spare room n (x ∷ xs) y all le = (all.0, pushed_has_spare room n xs y all.1 le)

pub found_has_spare : {V : Type 0} (room : V → ℕ) (n : ℕ) (test : ℕ → Bool) (es : List (ℕ × V)) (v : V)
    → lookup test es ≡ Some v → AllHaveSpare (λ e. room e.1) n es → n ≤ room v
found_has_spare room n test [] v e all = absurd (none-some v e)
found_has_spare room n test (x ∷ es) v e all = by (test x.0) e (found_has_spare room n test es v)
  where
    by : (b : Bool) → cond b (Some x.1) (lookup test es) ≡ Some v
        → (lookup test es ≡ Some v → AllHaveSpare (λ e. room e.1) n es → n ≤ room v) → n ≤ room v
    by true e later = subst (λ w. n ≤ room w) (same_Some x.1 v e) all.0
    by false e later = later e all.1

pub set_has_spare : {V : Type 0} (room : V → ℕ) (n : ℕ) (test : ℕ → Bool) (es : List (ℕ × V)) (w : V)
    → AllHaveSpare (λ e. room e.1) n es → n ≤ room w → AllHaveSpare (λ e. room e.1) n (set_value test es w)
set_has_spare room n test [] w all le = tt
set_has_spare room n test (x ∷ es) w all le = by (test x.0) (set_has_spare room n test es w all.1 le)
  where
    by : (b : Bool) → AllHaveSpare (λ e. room e.1) n (set_value test es w)
        → AllHaveSpare (λ e. room e.1) n (cond b ((x.0, w) ∷ es) (x ∷ set_value test es w))
    by true later = (le, all.1)
    by false later = (all.0, later)

pub inserted_has_spare : {V : Type 0} (room : V → ℕ) (n : ℕ) (eq : ℕ → ℕ → Bool) (es : List (ℕ × V)) (k : ℕ) (w : V)
    → AllHaveSpare (λ e. room e.1) n es → n ≤ room w → AllHaveSpare (λ e. room e.1) n (insert_entry eq es k w)
inserted_has_spare room n eq [] k w all le = (le, tt)
inserted_has_spare room n eq (x ∷ es) k w all le = by (eq k x.0) (inserted_has_spare room n eq es k w all.1 le)
  where
    by : (b : Bool) → AllHaveSpare (λ e. room e.1) n (insert_entry eq es k w)
        → AllHaveSpare (λ e. room e.1) n (if b then (x.0, w) ∷ es else x ∷ insert_entry eq es k w)
    by true later = (le, all.1)
    by false later = (all.0, later)

-- The first `k` lists have this spare capacity.
abbrev pub FirstHaveSpare : {V : Type 0} → (V → ℕ) → ℕ → ℕ → List (ℕ × V) → Type 0
FirstHaveSpare room n zero es = Unit
FirstHaveSpare room n (suc k) [] = Unit
FirstHaveSpare room n (suc k) (e ∷ es) = (n ≤ room e.1) × FirstHaveSpare room n k es

pub next_has_spare : {V : Type 0} (room : V → ℕ) (n k : ℕ) (es : List (ℕ × V)) (w : V) → FirstHaveSpare room n k es
    → n ≤ room w → FirstHaveSpare room n (suc k) (set_value_at es k w)
next_has_spare room n zero [] w h le = tt
next_has_spare room n zero (e ∷ es) w h le = (le, tt)
next_has_spare room n (suc k) [] w h le = tt
next_has_spare room n (suc k) (e ∷ es) w h le = (h.0, next_has_spare room n k es w h.1 le)

pub all_have_spare : {V : Type 0} (room : V → ℕ) (n k : ℕ) (es : List (ℕ × V)) → length es ≤ k
    → FirstHaveSpare room n k es → AllHaveSpare (λ e. room e.1) n es
all_have_spare room n k [] le h = tt
all_have_spare room n zero (e ∷ es) le h = absurd (omega (arith, le))
all_have_spare room n (suc k) (e ∷ es) le h = (h.0, all_have_spare room n k es (omega (arith, le)) h.1)

pub replaced_has_spare : {V : Type 0} (room : V → ℕ) (n k : ℕ) (es : List (ℕ × V)) (v w : V)
    → slice_get (values_of es) k ≡ Some v → room v ≤ room w → AllHaveSpare (λ e. room e.1) n es
    → AllHaveSpare (λ e. room e.1) n (set_value_at es k w)
replaced_has_spare room n k [] v w found le all = tt
replaced_has_spare room n zero (x ∷ es) v w found le all =
    let first = all.0 in
    let same : room x.1 ≡ room v = ap room (same_Some x.1 v found) in
    (omega (arith, first, same, le), all.1)
replaced_has_spare room n (suc k) (x ∷ es) v w found le all = (all.0, replaced_has_spare room n k es v w found le all.1)

-- The total spare capacity falls by at most one if the capacity of one list falls by at most one.
pub set_spare : {V : Type 0} (room : V → ℕ) (s t : ℕ) (test : ℕ → Bool) (es : List (ℕ × V)) (pool : List V) (v w : V)
    → lookup test es ≡ Some v → room v ≤ room w + 1 → t ≡ s
    → links_spare room s es pool ≤ links_spare room t (set_value test es w) pool + 1
set_spare room s t test es pool v w found le same =
    falls_by_one (links_spare room s es pool) (links_spare room t (set_value test es w) pool) (λ n below.
    let have = below_spare room (suc n) s es pool below in
    let first = found_has_spare room (suc n) test es v found have.lists in
    let map = have.map in
    let count = have.count in
    spare_is room n t (set_value test es w) pool (record {
      map = omega (arith, map, same);
      count = omega (arith, count);
      ready = fewer room n (suc n) pool (omega arith) have.ready;
      lists = set_has_spare room n test es w (fewer (λ e. room e.1) n (suc n) es (omega arith) have.lists)
          (omega (arith, first, le));
    }))

pub insert_spare : {V : Type 0} (room : V → ℕ) (s t k : ℕ) (es : List (ℕ × V)) (pool rest : List V) (v w : V)
    → s ≤ t + 1 → length pool ≤ length rest + 1 → room v ≤ room w + 1
    → ((n : ℕ) → AllHaveSpare room n pool → 0 < length pool → n ≤ room v)
    → ((n : ℕ) → AllHaveSpare room n pool → AllHaveSpare room n rest)
    → links_spare room s es pool ≤ links_spare room t (insert_entry nat_eq es k w) rest + 1
insert_spare room s t k es pool rest v w less shorter le first later =
    falls_by_one (links_spare room s es pool) (links_spare room t (insert_entry nat_eq es k w) rest) (λ n below.
    let have = below_spare room (suc n) s es pool below in
    let map = have.map in
    let count = have.count in
    let taken = first (suc n) have.ready (omega (arith, count)) in
    spare_is room n t (insert_entry nat_eq es k w) rest (record {
      map = omega (arith, map, less);
      count = omega (arith, count, shorter);
      ready = fewer room n (suc n) rest (omega arith) (later (suc n) have.ready);
      lists = inserted_has_spare room n nat_eq es k w (fewer (λ e. room e.1) n (suc n) es (omega arith) have.lists)
          (omega (arith, taken, le));
    }))

pub on_ok : {X E P Q : Type 0} (r : Result X E) → OnOk r P → (P → Q) → OnOk r Q
on_ok (Ok x) p f = f p
on_ok (Err e) p f = tt

pub on_err : {X E P : Type 0} (r : Result X E) → P → OnErr r P
on_err (Ok x) p = tt
on_err (Err e) p = p
