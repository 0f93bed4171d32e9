-- The walk over the old groups does the work that the new groups owe.
use Rattle.std.proofs.Common.{ℕ, List, [], ◌∷◌, ◌≡◌, refl, ap, ◌∙◌, sym, Bool, true, false, not, ◌||◌, if◌then◌else◌, Option, Some, take}
use Rattle.rt_values.specs.declared.value.Value.{Value}
use Rattle.rt_values.specs.Maps.{Map}
use Rattle.rt_groups.specs.GroupForest.{GroupForest, End, Read, Group, GroupKind, Call, joined_forest}
use Rattle.rt_groups.specs.Paths.{GroupKey, sibling, occurrence, Found, matching_sibling, inside_of}
use Rattle.lang_ast.specs.Terms.{Func}
use Rattle.compose_model.specs.Composing.{meanings, meaning_at, forest}
use Rattle.recompose_laws.specs.Work.{Work, work_sum, with_call, runs_in, work_at_group, work, siblings}
use Rattle.recompose_laws.specs.Refreshing.{is_owed, refreshed_inside, refreshed_groups}
use Rattle.recompose_laws.specs.Walking.{walk_work_inside, walk_work, WalkDoesTheFrame}
use Rattle.recompose_laws.proofs.Selves.{call_itself, among_itself, joined_forest-joined_forest}
use Rattle.recompose_laws.proofs.Orders.{siblings-joined_forest}
use Rattle.recompose_laws.proofs.Refreshes.{refreshing_is_scratch}
use Rattle.recompose_laws.proofs.Beside.{path_work_is_sibling_work}

call_walk : (m : Map) (owed : List ℕ) (functions : List Func) (f : ℕ) (vs : List Value) (inside : GroupForest)
    (b : Bool) →
    walk_work m owed inside (take f functions)
    ≡ work owed inside [] false (refreshed_groups m owed inside (take f functions)) →
    (if b then with_call true (work owed inside [] true (meaning_at (meanings m functions) f vs))
    else walk_work m owed inside (take f functions))
    ≡ with_call b (work owed inside [] b
    (if b then meaning_at (meanings m functions) f vs else refreshed_groups m owed inside (take f functions)))
call_walk m owed functions f vs inside true h = refl
call_walk m owed functions f vs inside false h = h

-- One group of the walk with its contents, by the group that it is matched with.
abbrev group_work : List ℕ → Option Found → GroupKind → GroupForest → Work
group_work owed old what inside = work_at_group (runs_in owed false old what) old what
    (work owed (inside_of old) [] (runs_in owed false old what) inside)

group_walk : (m : Map) (owed : List ℕ) (functions : List Func) (n : ℕ) (what : GroupKind) (inside : GroupForest) →
    ((fs : List Func) → walk_work m owed inside fs ≡ work owed inside [] false (refreshed_groups m owed inside fs)) →
    walk_work_inside m owed functions what (is_owed owed inside) inside (walk_work m owed inside)
    ≡ group_work owed (Some (record { number = n; what = what; inside = inside })) what
    (refreshed_inside m functions what (is_owed owed inside) (refreshed_groups m owed inside))
group_walk m owed functions n (Call f vs) inside h =
    call_walk m owed functions f vs inside (is_owed owed inside) (h (take f functions))
    ∙ ap (λ b. with_call (not b || is_owed owed inside)
    (work owed inside [] (not b || is_owed owed inside)
    (refreshed_inside m functions (Call f vs) (is_owed owed inside) (refreshed_groups m owed inside))))
    (sym (call_itself f vs))
group_walk m owed functions n _ inside h = h functions

pub walk_is : (m : Map) (owed : List ℕ) (t before whole : GroupForest) (seen : List GroupKey) (functions : List Func)
    → whole ≡ joined_forest before t → seen ≡ siblings before [] →
    walk_work m owed t functions ≡ work owed whole seen false (refreshed_groups m owed t functions)
walk_is m owed End before whole seen functions e f = refl
walk_is m owed (Read x rest) before whole seen functions e f =
    walk_is m owed rest (joined_forest before (Read x End)) whole seen functions
    (e ∙ sym (joined_forest-joined_forest before (Read x End) rest))
    (f ∙ sym (siblings-joined_forest before (Read x End) []))
walk_is m owed (Group site n what inside rest) before whole seen functions e f =
    let found : matching_sibling (sibling site what) (occurrence (sibling site what) seen) whole ≡ Some (record { number = n; what = what; inside = inside }) =
    ap (λ l. matching_sibling (sibling site what) (occurrence (sibling site what) l) whole) f
    ∙ ap (λ w. matching_sibling (sibling site what) (occurrence (sibling site what) (siblings before [])) w) e
    ∙ among_itself site n what inside rest before in
    let rest_is = walk_is m owed rest (joined_forest before (Group site n what inside End)) whole
    (sibling site what ∷ seen) functions
    (e ∙ sym (joined_forest-joined_forest before (Group site n what inside End) rest))
    (ap (λ l. sibling site what ∷ l) f ∙ sym (siblings-joined_forest before (Group site n what inside End) [])) in
    let here = group_walk m owed functions n what inside (λ fs. walk_is m owed inside End inside [] fs refl refl)
    ∙ ap (λ g. group_work owed g what
    (refreshed_inside m functions what (is_owed owed inside) (refreshed_groups m owed inside))) (sym found) in
    ap (λ w. work_sum w (walk_work m owed rest functions)) here
    ∙ ap (λ w. work_sum (group_work owed
    (matching_sibling (sibling site what) (occurrence (sibling site what) seen) whole) what
    (refreshed_inside m functions what (is_owed owed inside) (refreshed_groups m owed inside))) w) rest_is

pub walk_does_the_frame : WalkDoesTheFrame
walk_does_the_frame m m' owed functions root same =
    walk_is m' owed (forest functions root m) End (forest functions root m) [] functions refl refl
    ∙ ap (λ t. work owed (forest functions root m) [] false t) (refreshing_is_scratch m m' owed functions root same)
    ∙ sym (path_work_is_sibling_work owed (forest functions root m) (forest functions root m'))
