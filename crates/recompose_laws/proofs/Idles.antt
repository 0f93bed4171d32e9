-- If nothing is owed, the walk over the kept groups keeps all of them.
use Rattle.std.proofs.Common.{ℕ, ◌-◌, ◌^◌, min, List, [], ◌∷◌, ◌++◌, ◌≡◌, refl, ap, ◌∙◌, sym, length, true, false, if◌then◌else◌, Option, take, arith}
use Rattle.rt_groups.specs.declared.report.Report.{Report}
use Rattle.rt_values.specs.Maps.{Map}
use Rattle.rt_groups.specs.GroupForest.{GroupForest, End, Read, Group, GroupKind, Call, asks, own_part, how_many, how_many_nodes}
use Rattle.rt_groups.specs.Paths.{Path, GroupKey, sibling, step, Found, at_path}
use Rattle.rt_groups.specs.Frames.{meets, given_number, numbered_forest, ran, calculated_cells, reads}
use Rattle.lang_ast.specs.Terms.{Func}
use Rattle.compose_model.specs.Composing.{meanings, meaning_at, forest}
use Rattle.recompose_laws.specs.Work.{Work, no_work, work_sum, with_call, work}
use Rattle.recompose_laws.specs.Refreshing.{is_owed}
use Rattle.recompose_laws.specs.Walking.{walk_work_inside, walk_work}
use Rattle.recompose_laws.specs.Numbering.{without_numbers, numbered_by_siblings, kept_number, renewed_inside, renewed_groups}
use Rattle.recompose_laws.specs.Idle.{IsNumbered, unchanged_report, KeptTrailIsNumbered, IsNotOwed, IsQuiet, QuietPartIsKept, NothingOwedNothingDone}
use Rattle.recompose_laws.proofs.Plain.{same_put, kept_trail_is_the_forest}
use Rattle.recompose_laws.proofs.Renewals.{composing_again_is_the_frame}

-- Only nodes get numbers.

own_number : (what : GroupKind) (old : Option Found) (k : ℕ)
    → (given_number what old k).0 ≡ kept_number what (given_number what old k).0
own_number (Call f vs) old k = refl
own_number _ old k = refl

numbered_is_numbered : (old : GroupForest) (here : Path) (seen : List GroupKey) (k : ℕ) (t : GroupForest)
    → IsNumbered (numbered_forest old here seen k t).0
numbered_is_numbered old here seen k End = tt
numbered_is_numbered old here seen k (Read x rest) = numbered_is_numbered old here seen k rest
numbered_is_numbered old here seen k (Group site n what inside rest) =
    let path = here ++ step site what seen ∷ [] in
    let first = (given_number what (at_path path old) k).1 in (
      own_number what (at_path path old) k,
      numbered_is_numbered old path [] first inside,
      numbered_is_numbered old here (sibling site what ∷ seen) (numbered_forest old path [] first inside).1 rest,
    )

pub kept_is_numbered : KeptTrailIsNumbered
kept_is_numbered old new k = numbered_is_numbered old [] [] k new

-- No call is owed.

meets_none : (xs : List ℕ) → meets xs [] ≡ false
meets_none [] = refl
meets_none (x ∷ xs) = meets_none xs

nothing_owed : (inside : GroupForest) → is_owed [] inside ≡ false
nothing_owed inside = meets_none (asks (own_part inside))

quiet_call : (what : GroupKind) (inside : GroupForest) → IsNotOwed [] what inside
quiet_call (Call f vs) inside = nothing_owed inside
quiet_call _ inside = tt

quiet : (t : GroupForest) → IsQuiet [] t
quiet End = tt
quiet (Read x rest) = quiet rest
quiet (Group site n what inside rest) = (quiet_call what inside, quiet inside, quiet rest)

-- The walk over a quiet part changes no group.

inside_stays : (m : Map) (owed : List ℕ) (functions : List Func) (what : GroupKind) (inside : GroupForest) (k : ℕ)
    → IsNotOwed owed what inside → ((fs : List Func) → renewed_groups m owed inside fs k ≡ (inside, k)) →
    renewed_inside m functions what (is_owed owed inside) inside k (renewed_groups m owed inside) ≡ (inside, k)
inside_stays m owed functions (Call f vs) inside k none h =
    ap (λ b. if b then numbered_by_siblings inside [] k (meaning_at (meanings m functions) f vs)
    else renewed_groups m owed inside (take f functions) k) none
    ∙ h (take f functions)
inside_stays m owed functions _ inside k none h = h functions

stays : (m : Map) (owed : List ℕ) (t : GroupForest) (functions : List Func) (k : ℕ) → IsQuiet owed t → IsNumbered t
    → renewed_groups m owed t functions k ≡ (t, k)
stays m owed End functions k q h = refl
stays m owed (Read x rest) functions k q h =
    ap (λ (p : GroupForest × ℕ). (Read x p.0, p.1)) (stays m owed rest functions k q h)
stays m owed (Group site n what inside rest) functions k q h =
    same_put site (kept_number what n) what
    (renewed_inside m functions what (is_owed owed inside) inside k (renewed_groups m owed inside)) (inside, k)
    (λ j. renewed_groups m owed rest functions j) (λ j. (rest, j))
    (inside_stays m owed functions what inside k q.0 (λ fs. stays m owed inside fs k q.1 h.1))
    (λ j. stays m owed rest functions j q.2 h.2)
    ∙ ap (λ (x : ℕ). (Group site x what inside rest, k)) (sym h.0)

-- The walk over a quiet part does no work.

inside_idles : (m : Map) (owed : List ℕ) (functions : List Func) (what : GroupKind) (inside : GroupForest)
    → IsNotOwed owed what inside → ((fs : List Func) → walk_work m owed inside fs ≡ no_work) →
    walk_work_inside m owed functions what (is_owed owed inside) inside (walk_work m owed inside) ≡ no_work
inside_idles m owed functions (Call f vs) inside none h =
    ap (λ b. if b then with_call true (work owed inside [] true (meaning_at (meanings m functions) f vs))
    else walk_work m owed inside (take f functions)) none
    ∙ h (take f functions)
inside_idles m owed functions _ inside none h = h functions

idles : (m : Map) (owed : List ℕ) (t : GroupForest) (functions : List Func) → IsQuiet owed t
    → walk_work m owed t functions ≡ no_work
idles m owed End functions q = refl
idles m owed (Read x rest) functions q = idles m owed rest functions q
idles m owed (Group site n what inside rest) functions q =
    ap (λ w. work_sum w (walk_work m owed rest functions))
    (inside_idles m owed functions what inside q.0 (λ fs. idles m owed inside fs q.1))
    ∙ ap (λ w. work_sum no_work w) (idles m owed rest functions q.2)

pub quiet_part_is_kept : QuietPartIsKept
quiet_part_is_kept m owed t functions k q h = (stays m owed t functions k q h, idles m owed t functions q)

-- Node numbers do not change what is counted.

pub how_many-without_numbers : (t : GroupForest) → how_many (without_numbers t) ≡ how_many t
how_many-without_numbers End = refl
how_many-without_numbers (Read x rest) = how_many-without_numbers rest
how_many-without_numbers (Group site n what inside rest) =
    let e = how_many-without_numbers inside in
    let f = how_many-without_numbers rest in
    omega (arith, e, f)

pub nodes-without_numbers : (t : GroupForest) → how_many_nodes (without_numbers t) ≡ how_many_nodes t
nodes-without_numbers End = refl
nodes-without_numbers (Read x rest) = nodes-without_numbers rest
nodes-without_numbers (Group site n what inside rest) =
    let e = nodes-without_numbers inside in
    let f = nodes-without_numbers rest in
    omega (arith, e, f)

-- A report, by the work that it counts.
abbrev told : Work → ℕ → ℕ → Report
told w groups nodes = record {
  ran = w.ran;
  calculated = w.calculated;
  reads = min (length w.reads) (2 ^ 64 - 1);
  groups = groups;
  nodes = nodes;
}

told_nothing : (w : Work) (groups nodes groups' nodes' : ℕ) → w ≡ no_work → groups ≡ groups' → nodes ≡ nodes'
    → told w groups nodes ≡ told no_work groups' nodes'
told_nothing w groups nodes groups' nodes' e f g =
    ap (λ v. told v groups nodes) e ∙ ap (λ x. told no_work x nodes) f ∙ ap (λ x. told no_work groups' x) g

idle_is : (t : GroupForest) → told no_work (how_many t) (how_many_nodes t) ≡ unchanged_report t
idle_is t = let e : min 0 (2 ^ 64 - 1) ≡ 0 = omega arith in
    ap {B = Report} (λ x. record { ran = 0; calculated = 0; reads = x; groups = how_many t; nodes = how_many_nodes t })
    e

pub idle_frame : NothingOwedNothingDone
idle_frame m m' functions root old k kept numbers same =
    let new = forest functions root m' in
    let both = composing_again_is_the_frame m m' [] functions root old k kept same in
    let keeps : numbered_forest old [] [] k (forest functions root m') ≡ (old, k) = sym both.0
    ∙ stays m' [] old functions k (quiet old) numbers in
    let plain : forest functions root m' ≡ without_numbers old =
    sym (kept_trail_is_the_forest old k functions root m') ∙ ap (λ (p : GroupForest × ℕ). without_numbers p.0) keeps in (
      keeps,
      told_nothing (record {
        ran = length (ran [] old new);
        calculated = length (calculated_cells [] old new);
        reads = reads [] old new;
      }) (how_many new) (how_many_nodes new) (how_many old) (how_many_nodes old)
          (sym both.1 ∙ idles m' [] old functions (quiet old)) (ap how_many plain ∙ how_many-without_numbers old)
          (ap how_many_nodes plain ∙ nodes-without_numbers old)
          ∙ idle_is old,
    )
