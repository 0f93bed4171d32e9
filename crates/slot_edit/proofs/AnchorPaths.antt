-- Following the old indexes of the new groups is following paths.
use Rattle.std.proofs.Common.{◌≡◌, ℕ, zero, suc, ◌+◌, Bool, true, false, List, [], ◌∷◌, map, Option, Some, None, nat_eq, if◌then◌else◌, refl, ap, sym, ◌∙◌, arith, true≢false, eq-eqb}
use Rattle.std.specs.Prelude.{slice_get}
use Rattle.std.specs.Option.{option_eq, option_map, option_map_or}
use Rattle.std.proofs.lemmas.Bool.{eqb-true}
use Rattle.rt_groups.specs.GroupForest.{GroupForest}
use Rattle.rt_groups.specs.Paths.{Path}
use Rattle.path_laws.specs.GroupPaths.{paths, path_at, index_at, old_indexes}
use Rattle.path_laws.proofs.Indexes.{same_item, no_item, get-map}
use Rattle.path_laws.proofs.SiblingMatches.{each_path_finds_its_group}
use Rattle.path_laws.proofs.FoundPaths.{each_found_group_has_the_path}
use Rattle.slot_anchors.specs.Anchors.{first_from, index_after_edit}
use Rattle.slot_edit.specs.Patches.{anchor_index}

is_same : (f : Option ℕ) (i : ℕ) → option_eq nat_eq f (Some i) ≡ true → f ≡ Some i
is_same None i e = absurd (true≢false (sym e))
is_same (Some n) i e = ap Some (eqb-true n i e)

record FirstIs (m k i : ℕ) (xs : List (Option ℕ)) : Type 0 where
  at : ℕ
  sum : m ≡ k + at
  found : slice_get xs at ≡ Some (Some i)

first_is : (xs : List (Option ℕ)) (k i m : ℕ) → first_from k i xs ≡ Some m → FirstIs m k i xs
first_is [] k i m e = absurd (no_item e)
first_is (f ∷ fs) k i m e = by (option_eq nat_eq f (Some i)) (is_same f i) (first_is fs (k + 1) i m) e
  where
    by : (b : Bool) → (b ≡ true → f ≡ Some i) → (first_from (k + 1) i fs ≡ Some m → FirstIs m (k + 1) i fs)
        → (if b then Some k else first_from (k + 1) i fs) ≡ Some m → FirstIs m k i (f ∷ fs)
    by true same go e = let is : k ≡ m = same_item e in
        record { at = 0; sum = omega (arith, is); found = ap Some (same refl) }
    by false same go e = let later = go e in let is = later.sum in
        record { at = suc later.at; sum = omega (arith, is); found = later.found }

same_is_true : (f : Option ℕ) (i : ℕ) → f ≡ Some i → option_eq nat_eq f (Some i) ≡ true
same_is_true f i e = ap (λ g. option_eq nat_eq g (Some i)) e ∙ itself i
  where
    itself : (n : ℕ) → nat_eq n n ≡ true
    itself n = eq-eqb n n refl

none_is : (xs : List (Option ℕ)) (k i j : ℕ) → first_from k i xs ≡ None → slice_get xs j ≡ Some (Some i) → ⊥
none_is [] k i j e found = no_item found
none_is (f ∷ fs) k i zero e found =
    let same = same_is_true f i (same_item found) in
    no_item (sym e ∙ ap (λ b. if b then Some k else first_from (k + 1) i fs) same)
none_is (f ∷ fs) k i (suc j) e found = by (option_eq nat_eq f (Some i)) (λ n. none_is fs (k + 1) i j n found) e
  where
    by : (b : Bool) → (first_from (k + 1) i fs ≡ None → ⊥) → (if b then Some k else first_from (k + 1) i fs) ≡ None → ⊥
    by true go e = no_item (sym e)
    by false go e = go e

-- The new group whose old index is i has the path of the old group at i.
kept : (t u : GroupForest) (i m : ℕ) (q : Option Path) → path_at u m ≡ q → option_map (index_at t) q ≡ Some (Some i)
    → option_map_or (index_at u) (path_at t i) None ≡ Some m
kept t u i m None at e = absurd (no_item e)
kept t u i m (Some q) at e =
    let old : path_at t i ≡ Some q = each_found_group_has_the_path t i q (same_item e) in
    ap (λ o. option_map_or (index_at u) o None) old ∙ each_path_finds_its_group u m q at

removed : (t u : GroupForest) (i : ℕ) (o : Option Path) → path_at t i ≡ o → first_from 0 i (old_indexes t u) ≡ None
    → None ≡ option_map_or (index_at u) o None
removed t u i None at e = refl
removed t u i (Some p) at e = by (index_at u p) refl
  where
    by : (r : Option ℕ) → index_at u p ≡ r → None ≡ r
    by None is = refl
    by (Some j) is =
        let here : path_at u j ≡ Some p = each_found_group_has_the_path u j p is in
        absurd (none_is (old_indexes t u) 0 i j e (
        get-map (index_at t) (paths [] u) j ∙ ap (λ o. option_map (index_at t) o) here
        ∙ ap Some (each_path_finds_its_group t i p at)
        ))

first_by_path : (t u : GroupForest) (i : ℕ) (r : Option ℕ) → first_from 0 i (old_indexes t u) ≡ r
    → r ≡ option_map_or (index_at u) (path_at t i) None
first_by_path t u i None e = removed t u i (path_at t i) refl e
first_by_path t u i (Some m) e =
    let is = first_is (old_indexes t u) 0 i m e in
    let sum = is.sum in
    let same : is.at ≡ m = omega (arith, sum) in
    sym (kept t u i m (path_at u m) refl (sym (get-map (index_at t) (paths [] u) m)
    ∙ ap (λ j. slice_get (old_indexes t u) j) (sym same) ∙ is.found))

pub anchor_is : (t u : GroupForest) (a : Option ℕ) → index_after_edit (old_indexes t u) a ≡ anchor_index t u a
anchor_is t u None = refl
anchor_is t u (Some i) = first_by_path t u i (first_from 0 i (old_indexes t u)) refl

pub anchors_are : (t u : GroupForest) (xs olds : List (Option ℕ)) → olds ≡ old_indexes t u
    → map (λ a. index_after_edit olds a) xs ≡ map (λ a. anchor_index t u a) xs
anchors_are t u [] olds e = refl
anchors_are t u (a ∷ xs) olds e =
    ap (λ x. x ∷ map (λ a. index_after_edit olds a) xs) (ap (λ l. index_after_edit l a) e ∙ anchor_is t u a)
    ∙ ap (λ l. anchor_index t u a ∷ l) (anchors_are t u xs olds e)
