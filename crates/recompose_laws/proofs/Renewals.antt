-- One walk over the kept groups gives the groups that the new frame keeps.
use Rattle.std.proofs.Common.{ℕ, List, [], ◌∷◌, ◌++◌, ◌≡◌, refl, ap, ◌∙◌, sym, subst, Bool, true, false, if◌then◌else◌, Option, Some, take}
use Rattle.rt_values.specs.declared.value.Value.{Value}
use Rattle.rt_values.specs.Maps.{Map}
use Rattle.rt_groups.specs.GroupForest.{GroupForest, End, Read, Group, GroupKind, Call, joined_forest, asks}
use Rattle.rt_groups.specs.Paths.{GroupKey, sibling, occurrence, Found, matching_sibling, inside_of}
use Rattle.rt_groups.specs.Frames.{given_number}
use Rattle.lang_ast.specs.Terms.{Func}
use Rattle.compose_model.specs.Composing.{meanings, meaning_at, forest}
use Rattle.recompose_laws.specs.Work.{work, siblings}
use Rattle.recompose_laws.specs.Refreshing.{is_owed, refreshed_inside, refreshed_groups, SameReads}
use Rattle.recompose_laws.specs.Numbering.{without_numbers, numbered_by_siblings, kept_number, renewed_inside, renewed_groups, ComposingAgainIsTheFrame}
use Rattle.recompose_laws.proofs.Selves.{among_itself, joined_forest-joined_forest}
use Rattle.recompose_laws.proofs.Orders.{siblings-joined_forest}
use Rattle.recompose_laws.proofs.Refreshes.{refreshing_is_scratch}
use Rattle.recompose_laws.proofs.Beside.{path_work_is_sibling_work}
use Rattle.recompose_laws.proofs.Walks.{walk_is}
use Rattle.recompose_laws.proofs.Plain.{put, same_put, work-without_numbers, beside-without_numbers, refreshed_groups-without_numbers}
use Rattle.recompose_laws.proofs.Numbers.{path_numbers_are_sibling_numbers}

call_renewal : (m : Map) (owed : List ℕ) (functions : List Func) (f : ℕ) (vs : List Value) (inside : GroupForest)
    (k : ℕ) (b : Bool) →
    renewed_groups m owed inside (take f functions) k
    ≡ numbered_by_siblings inside [] k (refreshed_groups m owed inside (take f functions)) →
    (if b then numbered_by_siblings inside [] k (meaning_at (meanings m functions) f vs)
    else renewed_groups m owed inside (take f functions) k)
    ≡ numbered_by_siblings inside [] k
    (if b then meaning_at (meanings m functions) f vs else refreshed_groups m owed inside (take f functions))
call_renewal m owed functions f vs inside k true h = refl
call_renewal m owed functions f vs inside k false h = h

inside_renewal : (m : Map) (owed : List ℕ) (functions : List Func) (what : GroupKind) (inside : GroupForest) (k : ℕ) →
    ((fs : List Func) → renewed_groups m owed inside fs k
    ≡ numbered_by_siblings inside [] k (refreshed_groups m owed inside fs)) →
    renewed_inside m functions what (is_owed owed inside) inside k (renewed_groups m owed inside)
    ≡ numbered_by_siblings inside [] k
    (refreshed_inside m functions what (is_owed owed inside) (refreshed_groups m owed inside))
inside_renewal m owed functions (Call f vs) inside k h =
    call_renewal m owed functions f vs inside k (is_owed owed inside) (h (take f functions))
inside_renewal m owed functions _ inside k h = h functions

keeps_number : (what : GroupKind) (n : ℕ) (inside : GroupForest) (k : ℕ)
    → (kept_number what n, k) ≡ given_number what (Some (record { number = n; what = what; inside = inside })) k
keeps_number (Call f vs) n inside k = refl
keeps_number _ n inside k = refl

pub renewal : (m : Map) (owed : List ℕ) (t before whole : GroupForest) (seen : List GroupKey) (functions : List Func)
    (k : ℕ) → whole ≡ joined_forest before t → seen ≡ siblings before [] →
    renewed_groups m owed t functions k ≡ numbered_by_siblings whole seen k (refreshed_groups m owed t functions)
renewal m owed End before whole seen functions k e f = refl
renewal m owed (Read x rest) before whole seen functions k e f =
    ap (λ (p : GroupForest × ℕ). (Read x p.0, p.1))
    (renewal m owed rest (joined_forest before (Read x End)) whole seen functions k
    (e ∙ sym (joined_forest-joined_forest before (Read x End) rest))
    (f ∙ sym (siblings-joined_forest before (Read x End) [])))
renewal m owed (Group site n what inside rest) before whole seen functions k e f =
    let found : matching_sibling (sibling site what) (occurrence (sibling site what) seen) whole ≡ Some (record { number = n; what = what; inside = inside }) =
    ap (λ l. matching_sibling (sibling site what) (occurrence (sibling site what) l) whole) f
    ∙ ap (λ w. matching_sibling (sibling site what) (occurrence (sibling site what) (siblings before [])) w) e
    ∙ among_itself site n what inside rest before in
    let fresh = refreshed_inside m functions what (is_owed owed inside) (refreshed_groups m owed inside) in
    same_put site (kept_number what n) what
    (renewed_inside m functions what (is_owed owed inside) inside k (renewed_groups m owed inside))
    (numbered_by_siblings inside [] k fresh)
    (λ j. renewed_groups m owed rest functions j)
    (λ j. numbered_by_siblings whole (sibling site what ∷ seen) j (refreshed_groups m owed rest functions))
    (inside_renewal m owed functions what inside k (λ fs. renewal m owed inside End inside [] fs k refl refl))
    (λ j. renewal m owed rest (joined_forest before (Group site n what inside End)) whole (sibling site what ∷ seen)
    functions j
    (e ∙ sym (joined_forest-joined_forest before (Group site n what inside End) rest))
    (ap (λ l. sibling site what ∷ l) f ∙ sym (siblings-joined_forest before (Group site n what inside End) [])))
    ∙ ap (λ (p : ℕ × ℕ). put site p.0 what (numbered_by_siblings inside [] p.1 fresh)
    (λ j. numbered_by_siblings whole (sibling site what ∷ seen) j (refreshed_groups m owed rest functions)))
    (keeps_number what n inside k)
    ∙ ap (λ (g : Option Found). put site (given_number what g k).0 what
    (numbered_by_siblings (inside_of g) [] (given_number what g k).1 fresh)
    (λ j. numbered_by_siblings whole (sibling site what ∷ seen) j (refreshed_groups m owed rest functions)))
    (sym found)

pub asks-without_numbers : (t : GroupForest) → asks (without_numbers t) ≡ asks t
asks-without_numbers End = refl
asks-without_numbers (Read x rest) = ap (λ l. x ∷ l) (asks-without_numbers rest)
asks-without_numbers (Group site n what inside rest) =
    ap (λ l. l ++ asks (without_numbers rest)) (asks-without_numbers inside)
    ∙ ap (λ l. asks inside ++ l) (asks-without_numbers rest)

pub composing_again_is_the_frame : ComposingAgainIsTheFrame
composing_again_is_the_frame m m' owed functions root old k kept same =
    let reads = subst (λ (l : List ℕ). SameReads owed l m m') (sym (asks-without_numbers old) ∙ ap asks kept) same in
    let new : without_numbers (refreshed_groups m' owed old functions) ≡ forest functions root m' =
    refreshed_groups-without_numbers m' owed old functions ∙ ap (λ t. refreshed_groups m' owed t functions) kept
    ∙ refreshing_is_scratch m m' owed functions root reads in (
      renewal m' owed old End old [] functions k refl refl
          ∙ sym (beside-without_numbers old [] k (refreshed_groups m' owed old functions))
          ∙ ap (λ t. numbered_by_siblings old [] k t) new
          ∙ sym (path_numbers_are_sibling_numbers old (forest functions root m') k),
      walk_is m' owed old End old [] functions refl refl
          ∙ sym (work-without_numbers owed old [] false (refreshed_groups m' owed old functions))
          ∙ ap (λ t. work owed old [] false t) new
          ∙ sym (path_work_is_sibling_work owed old (forest functions root m')),
    )
