-- A frame in which no call is owed changes nothing.
use Rattle.std.proofs.Common.{ℕ, ◌-◌, ◌^◌, ◌≤◌, min, List, [], ◌++◌, ◌≡◌, refl, ap, ◌∙◌, sym, subst, length, append-nil, Bool, true, false, if◌then◌else◌, Option, Some, None, take, arith}
use Rattle.std.specs.Option.{is_none}
use Rattle.rt_values.specs.Maps.{Map, differ}
use Rattle.rt_groups.specs.declared.report.Report.{Report}
use Rattle.rt_groups.specs.GroupForest.{GroupForest, End, Read, Group, GroupKind, Call, Node, Key, Cell, asks, how_many, how_many_nodes}
use Rattle.rt_groups.specs.Nodes.{nodes}
use Rattle.rt_groups.specs.Frames.{LastFrame, numbered_forest, most_groups, ran, calculated_cells, reads, report}
use Rattle.lang_ast.specs.Terms.{Func}
use Rattle.compose_model.specs.Composing.{meanings, meaning_at, forest}
use Rattle.compose_model.specs.Frame.{FrameResult, frame, kept_after}
use Rattle.lang_ast.specs.declared.program.Program.{Program}
use Rattle.recompose_laws.specs.Work.{Work, no_work, with_call, work}
use Rattle.recompose_laws.specs.Refreshing.{is_owed, SameReads}
use Rattle.recompose_laws.specs.Walking.{walk_work_inside, walk_work}
use Rattle.recompose_laws.specs.Numbering.{without_numbers}
use Rattle.recompose_laws.specs.Idle.{IsNotOwed, IsQuiet, unchanged_report}
use Rattle.recompose_laws.specs.Distinct.{AreDistinct}
use Rattle.recompose_laws.proofs.Idles.{quiet_part_is_kept}
use Rattle.recompose_laws.proofs.Plain.{kept_trail_is_the_forest}
use Rattle.recompose_laws.proofs.Renewals.{composing_again_is_the_frame}
use Rattle.node_tree.proofs.SameLevels.{unchanged_tree_needs_no_calls}
use Rattle.node_laws.proofs.ForestTrees.{kept_tree_is_distinct}
use Rattle.composer.specs.OwedObjects.{OwedObjects}
use Rattle.composer.specs.FrameDrafts.{root_of}
use Rattle.lang_ast.specs.Programs.{program_view, functions_of}
use Rattle.lang_checks.specs.CheckedProgram.{IsChecked}
use Rattle.recomposer.specs.declared.composition.Composition.{Composition}
use Rattle.recomposer.specs.AppliedFrames.{ops_of}
use Rattle.node_tree.specs.FrameOps.{frame_ops}
use Rattle.recomposer.specs.Compositions.{IsKept, Owes, IsAt, frame_reads, OwesNoCall, seen_again, ChangesNothing}
use Rattle.recomposer.proofs.Applied.{usual_ops}
use Rattle.recomposer.proofs.Frames.{good_is, groups_counted, nodes_counted}
use Rattle.recomposer.proofs.Owings.{same_below}
use Rattle.recomposer.proofs.StateReads.{kept_below}

-- If the walk over the kept groups runs no call, no call is owed.

group_quiet : (m : Map) (owed : List ℕ) (functions : List Func) (what : GroupKind) (inside : GroupForest)
    → (walk_work_inside m owed functions what (is_owed owed inside) inside (walk_work m owed inside)).ran ≡ 0 →
    ((fs : List Func) → (walk_work m owed inside fs).ran ≡ 0 → IsQuiet owed inside)
    → IsNotOwed owed what inside × IsQuiet owed inside
group_quiet m owed functions (Call f vs) inside none go = by (is_owed owed inside) none
  where
    by : (b : Bool) → (if b then with_call true (work owed inside [] true (meaning_at (meanings m functions) f vs))
        else walk_work m owed inside (take f functions)).ran ≡ 0 → (b ≡ false) × IsQuiet owed inside
    by true none = absurd (omega (arith, none))
    by false none = (refl, go (take f functions) none)
group_quiet m owed functions (Node kind attributes) inside none go = (tt, go functions none)
group_quiet m owed functions (Key v) inside none go = (tt, go functions none)
group_quiet m owed functions (Cell ks v) inside none go = (tt, go functions none)

quiet_walk : (m : Map) (owed : List ℕ) (t : GroupForest) (functions : List Func)
    → (walk_work m owed t functions).ran ≡ 0 → IsQuiet owed t
quiet_walk m owed End functions none = tt
quiet_walk m owed (Read x rest) functions none = quiet_walk m owed rest functions none
quiet_walk m owed (Group site n what inside rest) functions none =
    let here : (walk_work_inside m owed functions what (is_owed owed inside) inside (walk_work m owed inside)).ran ≡ 0 =
    omega (arith, none) in
    let later : (walk_work m owed rest functions).ran ≡ 0 = omega (arith, none) in
    let both = group_quiet m owed functions what inside here (λ fs e. quiet_walk m owed inside fs e) in
    (both.0, both.1, quiet_walk m owed rest functions later)

-- A report, by the work that it counts.
abbrev told : Work → ℕ → ℕ → Report
told w groups nodes = record {
  ran = w.ran;
  calculated = w.calculated;
  reads = min (length w.reads) (2 ^ 64 - 1);
  groups = groups;
  nodes = nodes;
}

told_nothing : (w : Work) (groups nodes groups' nodes' : ℕ) → w ≡ no_work → groups ≡ groups' → nodes ≡ nodes'
    → told w groups nodes ≡ told no_work groups' nodes'
told_nothing w groups nodes groups' nodes' e f g =
    ap (λ v. told v groups nodes) e ∙ ap (λ x. told no_work x nodes) f ∙ ap (λ x. told no_work groups' x) g

nothing_told : (t : GroupForest) → told no_work (how_many t) (how_many_nodes t) ≡ unchanged_report t
nothing_told t =
    let e : min 0 (2 ^ 64 - 1) ≡ 0 = omega arith in
    ap {B = Report} (λ x. record { ran = 0; calculated = 0; reads = x; groups = how_many t; nodes = how_many_nodes t })
    e

-- The frame in the map `m` after a kept forest of the map `seen`. Every object that the forest read and that changed is
-- owed.
module _ (p : Program) (seen m : Map) (trail : GroupForest) (next : ℕ) (owed : List ℕ) (kept : IsKept p seen trail)
    (same : SameReads owed (asks trail) seen m) where
  abbrev functions : List Func
  functions = functions_of p

  abbrev new : GroupForest
  new = forest functions (root_of p) m

  abbrev before : LastFrame
  before = record { seen = Some seen; trail = trail; next = next }

  abbrev frame_work : Work
  frame_work = record {
    ran = length (ran owed trail new);
    calculated = length (calculated_cells owed trail new);
    reads = reads owed trail new;
  }

  abbrev IsStill : Type 0
  IsStill = numbered_forest trail [] [] next new ≡ (trail, next)

  work_is : walk_work m owed trail functions ≡ frame_work
  work_is = (composing_again_is_the_frame seen m owed functions (root_of p) trail next kept.composed same).1

  -- If no call ran, no call is owed.
  quiet_if_none_ran : length (ran owed trail new) ≡ 0 → IsQuiet owed trail
  quiet_if_none_ran none = quiet_walk m owed trail functions (ap (λ (w : Work). w.ran) work_is ∙ none)

  still_if_quiet : IsQuiet owed trail → IsStill
  still_if_quiet quiet = sym (composing_again_is_the_frame seen m owed functions (root_of p) trail next kept.composed
      same).0 ∙ (quiet_part_is_kept m owed trail functions next quiet kept.numbered).0

  works_nothing : IsQuiet owed trail → frame_work ≡ no_work
  works_nothing quiet = sym work_is ∙ (quiet_part_is_kept m owed trail functions next quiet kept.numbered).1

  composed_again : IsStill → without_numbers trail ≡ new
  composed_again still = ap (λ (q : GroupForest × ℕ). without_numbers q.0) (sym still)
      ∙ kept_trail_is_the_forest trail next functions (root_of p) m

  fits : IsStill → how_many new ≤ most_groups
  fits still = subst (λ (t : GroupForest). how_many t ≤ most_groups) (sym kept.composed ∙ composed_again still) kept.few

  -- No call is made on an applier if the forest stays.
  calls_none_if_stays : AreDistinct trail next → IsStill → ops_of before (frame functions before m) ≡ []
  calls_none_if_stays distinct still =
      ap (λ (o : Option FrameResult). ops_of before o) (good_is p before m (fits still))
      ∙ ap (λ (q : GroupForest × ℕ). frame_ops before q.0) still
      ∙ sym (usual_ops before trail refl)
      ∙ unchanged_tree_needs_no_calls (nodes trail) (kept_tree_is_distinct trail next distinct)

  told_unchanged : IsQuiet owed trail → report owed trail new ≡ unchanged_report trail
  told_unchanged quiet =
      let plain = composed_again (still_if_quiet quiet) in
      told_nothing frame_work (how_many new) (how_many_nodes new) (how_many trail) (how_many_nodes trail)
      (works_nothing quiet)
      (ap how_many (sym plain) ∙ groups_counted trail) (ap how_many_nodes (sym plain) ∙ nodes_counted trail)
      ∙ nothing_told trail

-- If no call ran, no call is made on an applier.
calls_none_from : (p : Program) (seen : Option Map) (trail : GroupForest) (next : ℕ) (m : Map) (owed : OwedObjects)
    → owed.all ≡ false → IsChecked (program_view p) → Owes p seen trail (Some m) owed → AreDistinct trail next
    → length (ran owed.objects trail (forest (functions_of p) (root_of p) m)) ≡ 0
    → let k : LastFrame = record { seen = seen; trail = trail; next = next } in
    ops_of k (frame (functions_of p) k m) ≡ []
calls_none_from p None trail next m owed all checked h distinct none =
    absurd (let e : true ≡ false = sym h.1 ∙ all in cc)
calls_none_from p (Some seen) trail next m owed all checked h distinct none =
    let same = same_below (length p.states.items) seen m owed.objects h.1 h.2 (asks trail)
    (kept_below p seen trail checked h.3.composed) in
    calls_none_if_stays p seen m trail next owed.objects h.3 same distinct
    (still_if_quiet p seen m trail next owed.objects h.3 same
    (quiet_if_none_ran p seen m trail next owed.objects h.3 same none))

pub calls_none : (c : Composition) (k : LastFrame) (m : Map) → IsAt c k (Some m) → c.owed.all ≡ false
    → length (ran c.owed.objects k.trail (forest (functions_of c.program.now) (root_of c.program.now) m)) ≡ 0
    → ops_of k (frame (functions_of c.program.now) k m) ≡ []
calls_none c k m h all none =
    calls_none_from c.program.now k.seen k.trail k.next m c.owed all h.checked h.owes h.numbers none

-- A frame in which no call is owed changes nothing.
quiet_from : (p : Program) (seen : Option Map) (trail : GroupForest) (next : ℕ) (m : Map) (owed : OwedObjects)
    → is_none seen ≡ false → IsQuiet (differ seen m) trail → IsChecked (program_view p)
    → Owes p seen trail (Some m) owed → AreDistinct trail next
    → ChangesNothing p (record { seen = seen; trail = trail; next = next }) m
quiet_from p None trail next m owed some quiet checked h distinct = absurd (let e : true ≡ false = some in cc)
quiet_from p (Some seen) trail next m owed some quiet checked h distinct =
    let changed = differ (Some seen) m in
    let same = same_below (length p.states.items) seen m changed h.1 (λ x low. refl) (asks trail)
    (kept_below p seen trail checked h.3.composed) in
    let still = still_if_quiet p seen m trail next changed h.3 same quiet in
    let k : LastFrame = record { seen = Some seen; trail = trail; next = next } in
    let new = forest (functions_of p) (root_of p) m in
    record {
      is = good_is p k m (fits p seen m trail next changed h.3 same still)
          ∙ ap (λ (q : GroupForest × ℕ). Some (good (record { seen = Some m; trail = q.0; next = q.1 })
          (report changed trail new))) still
          ∙ ap (λ r. Some (good (seen_again k m) r)) (told_unchanged p seen m trail next changed h.3 same quiet);
      reads_none = ap (λ (w : Work). w.reads) (works_nothing p seen m trail next changed h.3 same quiet);
      calls_none = calls_none_if_stays p seen m trail next changed h.3 same distinct still;
    }
  where
    good : LastFrame → Report → FrameResult
    good left told = record { left = left; told = told }

pub quiet_at : (c : Composition) (k : LastFrame) (m : Map) → IsAt c k (Some m) → OwesNoCall k m
    → ChangesNothing c.program.now k m
quiet_at c k m h quiet =
    quiet_from c.program.now k.seen k.trail k.next m c.owed quiet.0 quiet.1 h.checked h.owes h.numbers

-- What is so after a frame that changes nothing.
module _ (p : Program) (k : LastFrame) (m : Map) (nothing : ChangesNothing p k m) where
  pub quiet_reads : (asked asked' : List ℕ) → asked' ≡ asked ++ frame_reads p k m → asked' ≡ asked
  quiet_reads asked asked' reads = reads ∙ ap (λ (l : List ℕ). asked ++ l) nothing.reads_none ∙ append-nil asked

  pub quiet_kept : (c : Composition) → IsAt c (kept_after k (frame (functions_of p) k m)) (Some m)
      → IsAt c (seen_again k m) (Some m)
  quiet_kept c good = subst (λ (o : Option FrameResult). IsAt c (kept_after k o) (Some m)) nothing.is good
