-- The links of a map's entries after a change of one entry.
use Rattle.std.proofs.Common.{◌≡◌, ◌≤◌, ℕ, zero, suc, nat_eq, Bool, true, false, List, [], ◌∷◌, ◌++◌, map, length, Some, None, cond, if◌then◌else◌, refl, ap, sym, ◌∙◌, arith}
use Rattle.std.proofs.lemmas.Option.{none-some, same_Some}
use Rattle.std.specs.Prelude.{slice_get}
use Rattle.std.specs.Option.{option_map_or}
use Rattle.std.specs.Map.{lookup, set_value, values_of}
use Rattle.indexmap.specs.IndexMap.{insert_entry, set_value_at}
use Rattle.read_links.specs.LinkLists.{with_scope, links_with, scopes_in}
use Rattle.read_links.specs.Storage.{entry_links}

pub set_links : {V : Type 0} (items : V → List ℕ) (s x : ℕ) (es : List (ℕ × V)) (v w : V)
    → lookup (nat_eq x) es ≡ Some v → items w ≡ with_scope s (items v)
    → entry_links items (set_value (nat_eq x) es w) ≡ links_with s x (entry_links items es)
set_links items s x [] v w found is = absurd (none-some v found)
set_links items s x (e ∷ es) v w found is = by (nat_eq x e.0) found (set_links items s x es v w)
  where
    by : (b : Bool) → cond b (Some e.1) (lookup (nat_eq x) es) ≡ Some v
        → (lookup (nat_eq x) es ≡ Some v → items w ≡ with_scope s (items v)
        → entry_links items (set_value (nat_eq x) es w) ≡ links_with s x (entry_links items es))
        → entry_links items (cond b ((e.0, w) ∷ es) (e ∷ set_value (nat_eq x) es w))
        ≡ (if b then (e.0, with_scope s (items e.1)) ∷ entry_links items es else (e.0, items e.1) ∷ links_with s x
        (entry_links items es))
    by true found later = ap (λ l. (e.0, l) ∷ entry_links items es)
        (is ∙ ap (λ u. with_scope s (items u)) (sym (same_Some e.1 v found)))
    by false found later = ap (λ l. (e.0, items e.1) ∷ l) (later found is)

-- A list with the same items changes no links.
pub kept_links : {V : Type 0} (items : V → List ℕ) (test : ℕ → Bool) (es : List (ℕ × V)) (v w : V)
    → lookup test es ≡ Some v → items w ≡ items v
    → entry_links items (set_value test es w) ≡ entry_links items es
kept_links items test [] v w found is = refl
kept_links items test (e ∷ es) v w found is = by (test e.0) found (kept_links items test es v w)
  where
    by : (b : Bool) → cond b (Some e.1) (lookup test es) ≡ Some v
        → (lookup test es ≡ Some v → items w ≡ items v → entry_links items (set_value test es w) ≡ entry_links items es)
        → entry_links items (cond b ((e.0, w) ∷ es) (e ∷ set_value test es w)) ≡ (e.0, items e.1) ∷ entry_links items es
    by true found later =
        ap (λ l. (e.0, l) ∷ entry_links items es) (is ∙ ap (λ u. items u) (sym (same_Some e.1 v found)))
    by false found later = ap (λ l. (e.0, items e.1) ∷ l) (later found is)

pub insert_links : {V : Type 0} (items : V → List ℕ) (s x : ℕ) (es : List (ℕ × V)) (w : V) → lookup (nat_eq x) es ≡ None
    → items w ≡ s ∷ [] → entry_links items (insert_entry nat_eq es x w) ≡ links_with s x (entry_links items es)
insert_links items s x [] w absent is = ap (λ l. (x, l) ∷ []) is
insert_links items s x (e ∷ es) w absent is = by (nat_eq x e.0) absent (insert_links items s x es w)
  where
    by : (b : Bool) → cond b (Some e.1) (lookup (nat_eq x) es) ≡ None
        → (lookup (nat_eq x) es ≡ None → items w ≡ s ∷ []
        → entry_links items (insert_entry nat_eq es x w) ≡ links_with s x (entry_links items es))
        → entry_links items (if b then (e.0, w) ∷ es else e ∷ insert_entry nat_eq es x w)
        ≡ (if b then (e.0, with_scope s (items e.1)) ∷ entry_links items es else (e.0, items e.1) ∷ links_with s x
        (entry_links items es))
    by true absent later = absurd (none-some e.1 (sym absent))
    by false absent later = ap (λ l. (e.0, items e.1) ∷ l) (later absent is)

pub found_scopes : {V : Type 0} (items : V → List ℕ) (x : ℕ) (es : List (ℕ × V))
    → option_map_or items (lookup (nat_eq x) es) [] ≡ scopes_in x (entry_links items es)
found_scopes items x [] = refl
found_scopes items x (e ∷ es) = by (nat_eq x e.0) (found_scopes items x es)
  where
    by : (b : Bool) → option_map_or items (lookup (nat_eq x) es) [] ≡ scopes_in x (entry_links items es)
        → option_map_or items (cond b (Some e.1) (lookup (nat_eq x) es)) []
        ≡ (if b then items e.1 else scopes_in x (entry_links items es))
    by true later = refl
    by false later = later

-- The list with the function applied to its first `k` items.
abbrev pub mapped_first : {X : Type 0} → (X → X) → ℕ → List X → List X
mapped_first f zero xs = xs
mapped_first f (suc k) [] = []
mapped_first f (suc k) (x ∷ xs) = f x ∷ mapped_first f k xs

pub mapped_all : {X : Type 0} (f : X → X) (k : ℕ) (xs : List X) → length xs ≤ k → mapped_first f k xs ≡ map f xs
mapped_all f zero [] le = refl
mapped_all f zero (x ∷ xs) le = absurd (omega (arith, le))
mapped_all f (suc k) [] le = refl
mapped_all f (suc k) (x ∷ xs) le = ap (λ l. f x ∷ l) (mapped_all f k xs (omega (arith, le)))

abbrev map_first : (List ℕ → List ℕ) → List (ℕ × List ℕ) → List (ℕ × List ℕ)
map_first g [] = []
map_first g (m ∷ ms) = (m.0, g m.1) ∷ ms

abbrev entry_at : List (ℕ × List ℕ) → List (ℕ × List ℕ)
entry_at [] = []
entry_at (m ∷ ms) = m ∷ []

abbrev entries_after : List (ℕ × List ℕ) → List (ℕ × List ℕ)
entries_after [] = []
entries_after (m ∷ ms) = ms

-- A list with the same items at index `k` changes no links.
pub same_entry : {V : Type 0} (items : V → List ℕ) (k : ℕ) (es : List (ℕ × V)) (v w : V)
    → slice_get (values_of es) k ≡ Some v → items w ≡ items v
    → entry_links items (set_value_at es k w) ≡ entry_links items es
same_entry items k [] v w found is = refl
same_entry items zero (x ∷ es) v w found is =
    ap (λ u. (x.0, u) ∷ entry_links items es) (is ∙ ap items (sym (same_Some x.1 v found)))
same_entry items (suc k) (x ∷ es) v w found is = ap (λ l. (x.0, items x.1) ∷ l) (same_entry items k es v w found is)

-- The value at index `k` is replaced by a value with the changed items.
pub next_entry : {V : Type 0} (items : V → List ℕ) (g : List ℕ → List ℕ) (k : ℕ) (es : List (ℕ × V)) (v w : V)
    → slice_get (values_of es) k ≡ Some v → items w ≡ g (items v)
    → (ls : List (ℕ × List ℕ)) → entry_links items es ≡ mapped_first (λ l. (l.0, g l.1)) k ls
    → entry_links items (set_value_at es k w) ≡ mapped_first (λ l. (l.0, g l.1)) (suc k) ls
next_entry items g k [] v w found is ls e = absurd (none-some v found)
next_entry items g zero (x ∷ es) v w found is [] e = absurd cc
next_entry items g zero (x ∷ es) v w found is (l ∷ ls) e =
    ap (λ u. (x.0, u) ∷ entry_links items es) (is ∙ ap (λ u. g (items u)) (sym (same_Some x.1 v found)))
    ∙ ap (map_first g) e
next_entry items g (suc k) (x ∷ es) v w found is [] e = absurd cc
next_entry items g (suc k) (x ∷ es) v w found is (l ∷ ls) e =
    ap (λ m. m ++ entry_links items (set_value_at es k w)) (ap entry_at e)
    ∙ ap (λ m. (l.0, g l.1) ∷ m) (next_entry items g k es v w found is ls (ap entries_after e))

pub length-set : {V : Type 0} (es : List (ℕ × V)) (k : ℕ) (w : V) → length (set_value_at es k w) ≡ length es
length-set [] k w = refl
length-set (e ∷ es) zero w = refl
length-set (e ∷ es) (suc k) w = ap suc (length-set es k w)

pub entry_count : {V : Type 0} (items : V → List ℕ) (es : List (ℕ × V)) → length (entry_links items es) ≡ length es
entry_count items [] = refl
entry_count items (e ∷ es) = ap suc (entry_count items es)

pub mapped_count : {X : Type 0} (f : X → X) (k : ℕ) (xs : List X) → length (mapped_first f k xs) ≡ length xs
mapped_count f zero xs = refl
mapped_count f (suc k) [] = refl
mapped_count f (suc k) (x ∷ xs) = ap suc (mapped_count f k xs)
