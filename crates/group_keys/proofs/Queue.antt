-- The queue of each sibling after a change of one queue.
use Rattle.std.proofs.Common.{◌≡◌, ◌<◌, ℕ, Bool, true, false, List, [], ◌∷◌, ◌++◌, drop, Option, Some, None, cond, if◌then◌else◌, inl, inr, refl, ap, sym, arith, ◌∙◌}
use Rattle.std.specs.Prelude.{option_to_list, position, slice_get}
use Rattle.std.specs.Option.{option_map, option_map_or}
use Rattle.std.specs.Map.{lookup}
use Rattle.std.proofs.lemmas.List.{nil_from_length}
use Rattle.std.proofs.lemmas.Option.{slice_get_cases, slice_get-map, get_or_from_slice_get}
use Rattle.std.proofs.lemmas.List.Quantifiers.{position-Some}
use Rattle.indexmap.specs.IndexMap.{IndexMap, get, keys, with_value_at, index_map_len, IsUnique}
use Rattle.indexmap.proofs.CallerLemmas.{updates-with_value_at}
use Rattle.rt_groups.specs.Paths.{GroupKey, same_sibling}
use Rattle.path_laws.specs.SiblingEquality.{same_is, siblings_equiv}
use Rattle.group_keys.specs.declared.queues.SiblingQueues.{SiblingQueues}
use Rattle.group_keys.specs.Queues.{queued_indexes, mapped_queue}

-- The queue of any sibling after `f` changes the queue of one sibling.
pub queue_after : {V : Type 0} (items : V → List ℕ) (find : GroupKey → Option V) (t s : GroupKey) (w : V)
    (now : Option V) (f : List ℕ → List ℕ) → items w ≡ f (option_map_or items (find t) [])
    → now ≡ cond (same_sibling t s) (Some w) (find s)
    → option_map_or items now [] ≡ (if same_sibling t s then f (option_map_or items (find s) [])
    else option_map_or items (find s) [])
queue_after items find t s w now f changed is = by (same_sibling t s) (λ e. ap find (same_is t s e)) is
  where
    by : (b : Bool) → (b ≡ true → find t ≡ find s) → now ≡ cond b (Some w) (find s)
        → option_map_or items now [] ≡ (if b then f (option_map_or items (find s) [])
        else option_map_or items (find s) [])
    by true same is = ap (λ o. option_map_or items o []) is ∙ changed
        ∙ ap (λ o. f (option_map_or items o [])) (same refl)
    by false same is = ap (λ o. option_map_or items o []) is

-- The queues after the queue of one sibling goes back to its key.
pub queue_kept : {V : Type 0} (items : V → List ℕ) (find : GroupKey → Option V) (t s : GroupKey) (w : V)
    (now : Option V) → items w ≡ option_map_or items (find t) [] → now ≡ cond (same_sibling t s) (Some w) (find s)
    → option_map_or items now [] ≡ option_map_or items (find s) []
queue_kept items find t s w now kept is = by (same_sibling t s) (λ e. ap find (same_is t s e)) is
  where
    by : (b : Bool) → (b ≡ true → find t ≡ find s) → now ≡ cond b (Some w) (find s)
        → option_map_or items now [] ≡ option_map_or items (find s) []
    by true same is =
        ap (λ o. option_map_or items o []) is ∙ kept ∙ ap (λ o. option_map_or items o []) (same refl)
    by false same is = ap (λ o. option_map_or items o []) is

-- Taking from a missing queue changes no queue.
pub none_after : {V : Type 0} (items : V → List ℕ) (find : GroupKey → Option V) (t s : GroupKey) → find t ≡ None
    → option_map_or items (find s) [] ≡ (if same_sibling t s then drop 1 (option_map_or items (find s) [])
    else option_map_or items (find s) [])
none_after items find t s none = by (same_sibling t s) (λ e. ap find (sym (same_is t s e)) ∙ none)
  where
    by : (b : Bool) → (b ≡ true → find s ≡ None)
        → option_map_or items (find s) []
        ≡ (if b then drop 1 (option_map_or items (find s) []) else option_map_or items (find s) [])
    by true gone = ap (λ o. option_map_or items o []) (gone refl)
        ∙ sym (ap (λ o. drop 1 (option_map_or items o [])) (gone refl))
    by false gone = refl

-- A key whose value is replaced twice has the last value.
pub replaced_twice : {V : Type 0} (b : Bool) (was now after : Option V) (v w : V) → now ≡ cond b (Some v) was
    → after ≡ cond b (Some w) now → after ≡ cond b (Some w) was
replaced_twice true was now after v w first last = last
replaced_twice false was now after v w first last = last ∙ first

-- The whole queue of any sibling after the listed index of one sibling is taken.
pub listed_after_take : (same : Bool) (was now : Option ℕ) (mapped : List ℕ) (i : ℕ) → (same ≡ true → was ≡ Some i)
    → now ≡ (if same then None else was)
    → option_to_list now ++ mapped
    ≡ (if same then drop 1 (option_to_list was ++ mapped) else option_to_list was ++ mapped)
listed_after_take true was now mapped i found left =
    ap (λ o. option_to_list o ++ mapped) left ∙ sym (ap (λ o. drop 1 (option_to_list o ++ mapped)) (found refl))
listed_after_take false was now mapped i found left = ap (λ o. option_to_list o ++ mapped) left

-- The whole queue of any sibling after an index of one sibling without a listed index is taken.
pub mapped_after_take : (same : Bool) (was now : Option ℕ) (mapped rest : List ℕ) → (same ≡ true → was ≡ None)
    → now ≡ (if same then None else was) → rest ≡ (if same then drop 1 mapped else mapped)
    → option_to_list now ++ rest
    ≡ (if same then drop 1 (option_to_list was ++ mapped) else option_to_list was ++ mapped)
mapped_after_take true was now mapped rest none left taken =
    ap (λ o. option_to_list o ++ rest) left ∙ taken
    ∙ sym (ap (λ o. drop 1 (option_to_list o ++ mapped)) (none refl))
mapped_after_take false was now mapped rest none left taken =
    ap (λ o. option_to_list o ++ rest) left ∙ ap (λ l. option_to_list was ++ l) taken

-- The whole queue of any sibling after an index of one sibling is listed, while the map is empty.
pub listed_after_push : (same : Bool) (was now : Option ℕ) (mapped : List ℕ) (i : ℕ) → mapped ≡ []
    → (same ≡ true → was ≡ None) → now ≡ (if same then Some i else was)
    → option_to_list now ++ mapped
    ≡ (if same then option_to_list was ++ mapped ++ i ∷ [] else option_to_list was ++ mapped)
listed_after_push true was now mapped i empty free put =
    ap (λ o. option_to_list o ++ mapped) put ∙ ap (λ l. i ∷ l) empty
    ∙ sym (ap (λ l. l ++ i ∷ []) empty) ∙ sym (ap (λ o. option_to_list o ++ mapped ++ i ∷ []) (free refl))
listed_after_push false was now mapped i empty free put = ap (λ o. option_to_list o ++ mapped) put

-- An empty map has no queues.
pub nothing_mapped : (p : SiblingQueues) (s : GroupKey) → index_map_len p.queues ≡ 0 → mapped_queue p s ≡ []
nothing_mapped p s none =
    ap (λ es. option_map_or queued_indexes (lookup (same_sibling s) es) []) (nil_from_length p.queues.entries none)

-- The value of any sibling after a write at the index of one sibling.
pub value_after_write : {V S : Type 0} (m : IndexMap GroupKey V S) (t s : GroupKey) (i : ℕ) (w : V)
    → IsUnique same_sibling m → position (same_sibling t) (keys m) ≡ Some i → i < index_map_len m
    → get same_sibling (with_value_at m i w) s ≡ cond (same_sibling t s) (Some w) (get same_sibling m s)
value_after_write m t s i w unique at within = elim (slice_get_cases m.entries i).1 [
  | inl found ↦ written found.0.0 found.0.1 found.2
  | inr past ↦ absurd (omega (arith, past.0, within))
]
  where
    written : (k : GroupKey) (v : _) → slice_get m.entries i ≡ Some (k, v)
        → get same_sibling (with_value_at m i w) s ≡ cond (same_sibling t s) (Some w) (get same_sibling m s)
    written k v found =
        let key_at = slice_get-map (λ e. e.0) m.entries i ∙ ap (option_map (λ e. e.0)) found in
        let here = get_or_from_slice_get (keys m) i k k key_at in
        let same = same_is t k (ap (same_sibling t) (sym here) ∙ (position-Some (same_sibling t) (keys m) i k at).1) in
        (updates-with_value_at m i w siblings_equiv unique k v found).0 s
        ∙ ap (λ u. cond (same_sibling u s) (Some w) (get same_sibling m s)) (sym same)
