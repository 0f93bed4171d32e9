-- Room for a scope in the lists of objects, after one list is changed or added.
use Rattle.std.proofs.Common.{◌≡◌, ◌≤◌, ◌<◌, ℕ, zero, suc, ◌+◌, ◌-◌, ◌++◌, length-append, nat_eq, Bool, true, false, List, [], ◌∷◌, length, get_or, Option, Some, None, is_some, cond, if◌then◌else◌, refl, ap, sym, ◌∙◌, subst, arith, eq-eqb}
use Rattle.std.proofs.lemmas.Bool.{eqb-true}
use Rattle.std.proofs.lemmas.Option.{same_Some}
use Rattle.std.specs.Prelude.{slice_get, IsSome}
use Rattle.std.specs.Option.{option_eq}
use Rattle.std.specs.Map.{lookup}
use Rattle.read_links.specs.LinkLists.{ends_with, with_scope}
use Rattle.read_links.specs.Storage.{AllHaveSpare, IsReady, AreReady, HasRoomFor, count_new}

-- The entries `es'` have the list `w` for the object `x`, and the lists of `es` for the others.
abbrev pub HasListAt : {V : Type 0} → ℕ → V → List (ℕ × V) → List (ℕ × V) → Type 0
HasListAt x w es es' = (q : ℕ) → lookup (nat_eq q) es' ≡ cond (nat_eq x q) (Some w) (lookup (nat_eq q) es)

-- A scope can be put with the list without memory.
abbrev pub TakesScope : {V : Type 0} → (V → List ℕ) → (V → ℕ) → ℕ → V → Type 0
TakesScope items room s w = room w ≡ 0 → ends_with s (items w) ≡ true

ready_by : {V : Type 0} (items : V → List ℕ) (room : V → ℕ) (s : ℕ) (w v : V) (found : Option V) (b : Bool)
    → cond b (Some w) found ≡ Some v → TakesScope items room s w
    → ((u : V) → found ≡ Some u → TakesScope items room s u) → TakesScope items room s v
ready_by items room s w v found true e fine before = subst (λ u. TakesScope items room s u) (same_Some w v e) fine
ready_by items room s w v found false e fine before = before v e

pub ready_after : {V : Type 0} (items : V → List ℕ) (room : V → ℕ) (s x y : ℕ) (w : V) (es es' : List (ℕ × V))
    → HasListAt x w es es' → TakesScope items room s w → IsReady items room s es y → IsReady items room s es' y
ready_after items room s x y w es es' changed fine ready =
    λ v e. ready_by items room s w v (lookup (nat_eq y) es) (nat_eq x y) (sym (changed y) ∙ e) fine ready

pub all_ready_after : {V : Type 0} (items : V → List ℕ) (room : V → ℕ) (s x : ℕ) (w : V) (es es' : List (ℕ × V))
    → HasListAt x w es es' → TakesScope items room s w → (xs : List ℕ) → AreReady items room s es xs
    → AreReady items room s es' xs
all_ready_after items room s x w es es' changed fine [] ready = tt
all_ready_after items room s x w es es' changed fine (y ∷ ys) ready = (
  ready_after items room s x y w es es' changed fine ready.0,
  all_ready_after items room s x w es es' changed fine ys ready.1,
)

-- All objects are ready if the object at each index is.
pub all_are_ready : {V : Type 0} (items : V → List ℕ) (room : V → ℕ) (s : ℕ) (es : List (ℕ × V)) (xs : List ℕ)
    → ((k : ℕ) → k < length xs → IsReady items room s es (get_or xs k 0)) → AreReady items room s es xs
all_are_ready items room s es [] h = tt
all_are_ready items room s es (x ∷ xs) h =
    (h 0 (omega arith), all_are_ready items room s es xs (λ k inside. h (suc k) (omega (arith, inside))))

fewer_by : {V : Type 0} (w : V) (found now : Option V) (b : Bool) → now ≡ cond b (Some w) found
    → (if is_some now then 0 else 1) ≤ (if is_some found then 0 else 1)
fewer_by {V} w found now true e =
    let none : (if is_some now then 0 else 1) ≡ 0 = ap {B = ℕ} (λ o. if is_some o then 0 else 1) e in
    omega (arith, none)
fewer_by {V} w found now false e =
    let same : (if is_some now then 0 else 1) ≡ (if is_some found then 0 else 1) =
    ap {B = ℕ} (λ o. if is_some o then 0 else 1) e in
    omega (arith, same)

-- A new or changed list leaves no more objects without a list.
pub no_more_new : {V : Type 0} (x : ℕ) (w : V) (es es' : List (ℕ × V)) → HasListAt x w es es' → (xs : List ℕ)
    → count_new xs es' ≤ count_new xs es
no_more_new x w es es' changed [] = omega arith
no_more_new x w es es' changed (y ∷ ys) =
    let first = fewer_by w (lookup (nat_eq y) es) (lookup (nat_eq y) es') (nat_eq x y) (changed y) in
    let later = no_more_new x w es es' changed ys in
    omega (arith, first, later)

same_by : {V : Type 0} (x y : ℕ) (v w : V) (es : List (ℕ × V)) → lookup (nat_eq x) es ≡ Some v → (b : Bool)
    → nat_eq x y ≡ b → is_some (cond b (Some w) (lookup (nat_eq y) es)) ≡ is_some (lookup (nat_eq y) es)
same_by x y v w es found true e =
    sym (ap (λ o. is_some o) (ap (λ q. lookup (nat_eq q) es) (sym (eqb-true x y e)) ∙ found))
same_by x y v w es found false e = refl

-- A changed list leaves the same objects without a list.
pub as_many_new : {V : Type 0} (x : ℕ) (v w : V) (es es' : List (ℕ × V)) → lookup (nat_eq x) es ≡ Some v
    → HasListAt x w es es' → (xs : List ℕ) → count_new xs es' ≡ count_new xs es
as_many_new x v w es es' found changed [] = refl
as_many_new x v w es es' found changed (y ∷ ys) =
    ap (λ b. (if b then 0 else 1) + count_new ys es')
    (ap (λ o. is_some o) (changed y) ∙ same_by x y v w es found (nat_eq x y) refl)
    ∙ ap (λ n. (if is_some (lookup (nat_eq y) es) then 0 else 1) + n) (as_many_new x v w es es' found changed ys)

pub room_after_known : {V : Type 0} (items : V → List ℕ) (room : V → ℕ) (s x : ℕ) (w : V) (es es' : List (ℕ × V))
    → HasListAt x w es es' → TakesScope items room s w → (xs : List ℕ) (m t : ℕ) (pool : List V) → t ≡ m
    → HasRoomFor items room s (x ∷ xs) m es pool → HasRoomFor items room s xs t es' pool
room_after_known items room s x w es es' changed fine xs m t pool same h =
    let few = no_more_new x w es es' changed xs in
    let map = h.map in
    let count = h.count in
    record {
      lists = all_ready_after items room s x w es es' changed fine xs h.lists.1;
      map = omega (arith, few, map, same);
      count = omega (arith, few, count);
      ready = h.ready;
    }

pub room_after_new : {V : Type 0} (items : V → List ℕ) (room : V → ℕ) (s x : ℕ) (w : V) (es es' : List (ℕ × V))
    → HasListAt x w es es' → TakesScope items room s w → lookup (nat_eq x) es ≡ None
    → (xs : List ℕ) (m t : ℕ) (pool rest : List V) → m ≤ t + 1 → length pool ≤ length rest + 1
    → AllHaveSpare room 1 rest → HasRoomFor items room s (x ∷ xs) m es pool
    → HasRoomFor items room s xs t es' rest
room_after_new items room s x w es es' changed fine absent xs m t pool rest less shorter ready h =
    let few = no_more_new x w es es' changed xs in
    let one = ap {B = ℕ} (λ o. (if is_some o then 0 else 1) + count_new xs es) absent in
    let map = h.map in
    let count = h.count in
    record {
      lists = all_ready_after items room s x w es es' changed fine xs h.lists.1;
      map = omega (arith, few, one, map, less);
      count = omega (arith, few, one, count, shorter);
      ready = ready;
    }

-- A new object takes one of the spare entries and one of the lists of the pool.
pub new_has_room : {V : Type 0} (items : V → List ℕ) (room : V → ℕ) (s x : ℕ) (es : List (ℕ × V))
    → lookup (nat_eq x) es ≡ None → (xs : List ℕ) (m : ℕ) (pool : List V)
    → HasRoomFor items room s (x ∷ xs) m es pool → (0 < m) × (0 < length pool)
new_has_room items room s x es absent xs m pool h =
    let one = ap {B = ℕ} (λ o. (if is_some o then 0 else 1) + count_new xs es) absent in
    let map = h.map in
    let count = h.count in
    (omega (arith, one, map), omega (arith, one, count))

last_appended : (s : ℕ) (ts : List ℕ) → slice_get (ts ++ s ∷ []) (length (ts ++ s ∷ []) - 1) ≡ Some s
last_appended s [] = refl
last_appended s (t ∷ ts) =
    let longer = length-append ts (s ∷ []) in
    let next : suc (length (ts ++ s ∷ [])) - 1 ≡ suc (length (ts ++ s ∷ []) - 1) = omega (arith, longer) in
    ap (λ n. slice_get (t ∷ (ts ++ s ∷ [])) n) next ∙ last_appended s ts

-- A list ends with the scope that was put.
pub ends_with_put : (s : ℕ) (ts : List ℕ) → ends_with s (with_scope s ts) ≡ true
ends_with_put s ts = by (ends_with s ts) refl
  where
    by : (b : Bool) → ends_with s ts ≡ b → ends_with s (if b then ts else ts ++ s ∷ []) ≡ true
    by true e = e
    by false e = ap (λ o. option_eq nat_eq o (Some s)) (last_appended s ts) ∙ eq-eqb s s refl

pub is_found : {V : Type 0} (found : Option V) (v : V) → found ≡ Some v → IsSome found
is_found found v e = ap is_some e

sure_by : {F E : Type 0} (n : ℕ) → (n ≡ 0 → E) → (1 ≤ n → F) → (E → F) → F
sure_by zero takes free ended = ended (takes refl)
sure_by (suc n) takes free ended = free (omega arith)

-- Appending the scope that a list has last, or a scope to a list with spare capacity, takes no memory.
pub put_is_sure : {V F : Type 0} (items : V → List ℕ) (room : V → ℕ) (s : ℕ) (v : V) → TakesScope items room s v
    → (1 ≤ room v → F) → (ends_with s (items v) ≡ true → F) → F
put_is_sure items room s v takes free ended = sure_by (room v) takes free ended

-- A list with only the scope ends with the scope.
pub takes_again : {V : Type 0} (items : V → List ℕ) (room : V → ℕ) (s : ℕ) (w : V) → items w ≡ s ∷ []
    → TakesScope items room s w
takes_again items room s w is = λ empty. ap (λ l. ends_with s l) is ∙ eq-eqb s s refl

-- An index of a list that has not two items is 0.
pub by_index : {P : Type 0} (n i : ℕ) → i < n → (i ≡ 0 → P) → (1 < n → ⊥) → P
by_index n zero inside first several = first refl
by_index n (suc i) inside first several = absurd (several (omega (arith, inside)))

pub at_most_one : (b : Bool) → (if b then 0 else 1) ≤ 1
at_most_one true = omega arith
at_most_one false = omega arith

pub before_or_at : (P : ℕ → Type 0) (k i : ℕ) → k < i + 1 → (k < i → P k) → P i → P k
before_or_at P zero zero inside before here = here
before_or_at P zero (suc i) inside before here = before (omega arith)
before_or_at P (suc k) zero inside before here = absurd (omega (arith, inside))
before_or_at P (suc k) (suc i) inside before here =
    before_or_at (λ n. P (suc n)) k i (omega (arith, inside)) (λ less. before (omega (arith, less))) here
