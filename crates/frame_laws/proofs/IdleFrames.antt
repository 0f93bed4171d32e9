-- Frames that do nothing.
use Rattle.std.proofs.Common.{ℕ, ◌-◌, ◌^◌, min, ◌||◌, nat_le, List, [], ◌∷◌, ◌++◌, length, ◌≡◌, refl, ap, ◌∙◌, sym, subst, Bool, true, false, if◌then◌else◌, Some, None, arith}
use Rattle.std.specs.Option.{option_map}
use Rattle.rt_values.specs.Maps.{Map, differ}
use Rattle.rt_groups.specs.declared.report.Report.{Report}
use Rattle.rt_groups.specs.GroupForest.{GroupForest, End, Read, Group, GroupKind, Call, asks, inside_own, own_part, how_many, how_many_nodes}
use Rattle.rt_groups.specs.Nodes.{nodes}
use Rattle.rt_groups.specs.Frames.{LastFrame, meets, most_groups, numbered_forest, report}
use Rattle.lang_ast.specs.Terms.{Func}
use Rattle.lang_ast.specs.Programs.{Program, root_number}
use Rattle.compose_model.specs.Composing.{forest}
use Rattle.compose_model.specs.Frame.{FrameResult, good_frame, frame}
use Rattle.recompose_laws.specs.Distinct.{AreDistinct}
use Rattle.recompose_laws.specs.Idle.{IsNumbered, IsNotOwed, IsQuiet, unchanged_report}
use Rattle.recompose_laws.specs.Numbering.{without_numbers}
use Rattle.recompose_laws.specs.Refreshing.{SameBut, SameReads}
use Rattle.recompose_laws.specs.Work.{Work, no_work}
use Rattle.recompose_laws.proofs.Owed.{owed_is_what_changed}
use Rattle.recompose_laws.proofs.Renewals.{composing_again_is_the_frame}
use Rattle.recompose_laws.proofs.Plain.{kept_trail_is_the_forest}
use Rattle.recompose_laws.proofs.Idles.{how_many-without_numbers, nodes-without_numbers, kept_is_numbered, idle_frame, quiet_part_is_kept}
use Rattle.node_laws.proofs.ForestTrees.{kept_tree_is_distinct}
use Rattle.node_laws.proofs.KeptShapes.{next_tree_can_follow}
use Rattle.node_tree.specs.FrameOps.{frame_ops}
use Rattle.node_tree.proofs.SameLevels.{unchanged_tree_needs_no_calls}
use Rattle.world_laws.proofs.MapDifferences.{differs_from_itself}
use Rattle.frame_laws.specs.IdleFrames.{idle_result, AreNotOwed, SecondFrameIsIdle, SecondFrameMakesNoCall, UnreadChangesDoNothing}

-- Two frames of one map.

same_map : (xs : List ℕ) (m : Map) → SameReads [] xs m m
same_map [] m = tt
same_map (x ∷ xs) m = (λ out. refl, same_map xs m)

second_result : (functions : List Func) (root : ℕ) (k : LastFrame) (m : Map) →
    let new = forest functions root m in
    let left = (good_frame k m new).left in
    good_frame left m new ≡ idle_result left m
second_result functions root k m =
    let new : GroupForest = forest functions root m in
    let left : LastFrame = (good_frame k m new).left in
    let idle = idle_frame m m functions root left.trail left.next
    (kept_trail_is_the_forest k.trail k.next functions root m) (kept_is_numbered k.trail new k.next)
    (same_map (asks left.trail) m) in
    let told : report (differ (Some m) m) left.trail new ≡ unchanged_report left.trail =
    ap (λ (xs : List ℕ). report xs left.trail new) (differs_from_itself m) ∙ idle.1 in
    ap {B = FrameResult} (λ (r : GroupForest × ℕ). record {
      left = record { seen = Some m; trail = r.0; next = r.1 };
      told = report (differ (Some m) m) left.trail new;
    }) idle.0
    ∙ ap {B = FrameResult} (λ (t : Report). record {
      left = record { seen = Some m; trail = left.trail; next = left.next };
      told = t;
    }) told

second_of : (functions : List Func) (k : LastFrame) (m : Map) (g : FrameResult) (fits : Bool) →
    let new = forest functions (root_number functions) m in
    option_map (good_frame k m) (if fits then Some new else None) ≡ Some g →
    option_map (good_frame g.left m) (if fits then Some new else None)
    ≡ Some (record { left = g.left; told = unchanged_report g.left.trail })
second_of functions k m g true e =
    let new : GroupForest = forest functions (root_number functions) m in
    let is : good_frame k m new ≡ g = cc in
    subst (λ (r : FrameResult). Some (good_frame r.left m new)
    ≡ Some (record { left = r.left; told = unchanged_report r.left.trail })) is
    (ap Some (second_result functions (root_number functions) k m))
second_of functions k m g false e = absurd cc

pub second_frame_is_idle : SecondFrameIsIdle
second_frame_is_idle functions k m g e = second_of functions k m g _ e

-- The second frame makes no call.

no_call_of : (p : Program) (k : LastFrame) (m : Map) (g : FrameResult) (fits : Bool) →
    AreDistinct (good_frame k m (forest p.functions (root_number p.functions) m)).left.trail
    (good_frame k m (forest p.functions (root_number p.functions) m)).left.next →
    option_map (good_frame k m) (if fits then Some (forest p.functions (root_number p.functions) m) else None) ≡ Some g →
    frame_ops g.left g.left.trail ≡ []
no_call_of p k m g true distinct e =
    let first : FrameResult = good_frame k m (forest p.functions (root_number p.functions) m) in
    let is : first ≡ g = cc in
    subst (λ (r : FrameResult). frame_ops r.left r.left.trail ≡ []) is
    (unchanged_tree_needs_no_calls (nodes first.left.trail) (kept_tree_is_distinct first.left.trail first.left.next
    distinct))
no_call_of p k m g false distinct e = absurd cc

pub second_frame_makes_no_call : SecondFrameMakesNoCall
second_frame_makes_no_call p k m g numbered checked was distinct e =
    no_call_of p k m g _
    (next_tree_can_follow p (root_number p.functions) k.trail k.next m numbered checked was distinct).1 e

-- Changes that no group has read.

unread_first : (owed xs ys : List ℕ) → AreNotOwed owed (xs ++ ys) → AreNotOwed owed xs
unread_first owed [] ys h = tt
unread_first owed (x ∷ xs) ys h = (h.0, unread_first owed xs ys h.1)

unread_second : (owed xs ys : List ℕ) → AreNotOwed owed (xs ++ ys) → AreNotOwed owed ys
unread_second owed [] ys h = h
unread_second owed (x ∷ xs) ys h = unread_second owed xs ys h.1

unread_both : (owed xs ys : List ℕ) → AreNotOwed owed xs → AreNotOwed owed ys → AreNotOwed owed (xs ++ ys)
unread_both owed [] ys h k = k
unread_both owed (x ∷ xs) ys h k = (h.0, unread_both owed xs ys h.1 k)

-- The own part of a call reads no more than the whole.
own_unread : (owed : List ℕ) (t : GroupForest) → AreNotOwed owed (asks t) → AreNotOwed owed (asks (own_part t))
own_unread owed End h = tt
own_unread owed (Read x rest) h = (h.0, own_unread owed rest h.1)
own_unread owed (Group site n what inside rest) h =
    let here = unread_first owed (asks inside) (asks rest) h in
    let later = own_unread owed rest (unread_second owed (asks inside) (asks rest) h) in
    by what (own_unread owed inside here) later
  where
    by : (what : GroupKind) → AreNotOwed owed (asks (own_part inside)) → AreNotOwed owed (asks (own_part rest))
        → AreNotOwed owed (asks (inside_own what (own_part inside)) ++ asks (own_part rest))
    by (Call f vs) inner later = later
    by _ inner later = unread_both owed (asks (own_part inside)) (asks (own_part rest)) inner later

meets_none : (owed xs : List ℕ) → AreNotOwed owed xs → meets xs owed ≡ false
meets_none owed [] h = refl
meets_none owed (x ∷ xs) h = ap (λ b. b || meets xs owed) h.0 ∙ meets_none owed xs h.1

quiet_call : (owed : List ℕ) (what : GroupKind) (inside : GroupForest) → AreNotOwed owed (asks inside)
    → IsNotOwed owed what inside
quiet_call owed (Call f vs) inside h = meets_none owed (asks (own_part inside)) (own_unread owed inside h)
quiet_call owed _ inside h = tt

quiet : (owed : List ℕ) (t : GroupForest) → AreNotOwed owed (asks t) → IsQuiet owed t
quiet owed End h = tt
quiet owed (Read x rest) h = quiet owed rest h.1
quiet owed (Group site n what inside rest) h =
    let here = unread_first owed (asks inside) (asks rest) h in (
      quiet_call owed what inside here,
      quiet owed inside here,
      quiet owed rest (unread_second owed (asks inside)
          (asks rest) h),
    )

same_values : (owed xs : List ℕ) (m n : Map) → SameBut owed m n → SameReads owed xs m n
same_values owed [] m n h = tt
same_values owed (x ∷ xs) m n h = (h x, same_values owed xs m n h)

no_reads : min 0 (2 ^ 64 - 1) ≡ 0
no_reads = omega arith

-- The report of a frame, by its work.
abbrev told_of : Work → ℕ → ℕ → Report
told_of w groups nodes = record {
  ran = w.ran;
  calculated = w.calculated;
  reads = min (length w.reads) (2 ^ 64 - 1);
  groups = groups;
  nodes = nodes;
}

unread_result : (functions : List Func) (root : ℕ) (m n : Map) (trail : GroupForest) (next : ℕ) →
    without_numbers trail ≡ forest functions root m → IsNumbered trail → SameBut (differ (Some m) n) m n →
    AreNotOwed (differ (Some m) n) (asks trail) →
    (forest functions root n ≡ forest functions root m)
    × (good_frame (record { seen = Some m; trail = trail; next = next }) n (forest functions root n)
    ≡ idle_result (record { seen = Some m; trail = trail; next = next }) n)
unread_result functions root m n trail next was numbers same unread =
    let owed : List ℕ = differ (Some m) n in
    let new : GroupForest = forest functions root n in
    let both = composing_again_is_the_frame m n owed functions root trail next was (same_values owed (asks trail) m n same)
    in
    let kept = quiet_part_is_kept n owed trail functions next (quiet owed trail unread) numbers in
    let given : numbered_forest trail [] [] next new ≡ (trail, next) = sym both.0 ∙ kept.0 in
    let plain : new ≡ without_numbers trail =
    sym (kept_trail_is_the_forest trail next functions root n)
    ∙ ap (λ (r : GroupForest × ℕ). without_numbers r.0) given in
    let work = sym both.1 ∙ kept.1 in
    let told : report owed trail new ≡ unchanged_report trail =
    ap (λ (w : Work). told_of w (how_many new) (how_many_nodes new)) work
    ∙ ap (λ k. told_of no_work k (how_many_nodes new)) (ap how_many plain ∙ how_many-without_numbers trail)
    ∙ ap (λ k. told_of no_work (how_many trail) k) (ap how_many_nodes plain ∙ nodes-without_numbers trail)
    ∙ ap {B = Report} (λ x. record {
      ran = 0;
      calculated = 0;
      reads = x;
      groups = how_many trail;
      nodes = how_many_nodes trail;
    }) no_reads in (
      plain ∙ was,
      ap {B = FrameResult} (λ (r : GroupForest × ℕ). record {
        left = record { seen = Some n; trail = r.0; next = r.1 };
        told = report owed trail new;
      }) given
          ∙ ap {B = FrameResult} (λ (t : Report). record {
            left = record { seen = Some n; trail = trail; next = next };
            told = t;
          }) told,
    )

unread_of : (functions : List Func) (k : LastFrame) (m n : Map) (g : FrameResult) (fits : Bool) →
    fits ≡ nat_le (how_many (forest functions (root_number functions) m)) most_groups →
    option_map (good_frame k m) (if fits then Some (forest functions (root_number functions) m) else None) ≡ Some g →
    SameBut (differ (Some m) n) m n → AreNotOwed (differ (Some m) n) (asks g.left.trail) →
    frame functions g.left n ≡ Some (idle_result g.left n)
unread_of functions k m n g true fits e same unread =
    let root = root_number functions in
    let first : FrameResult = good_frame k m (forest functions root m) in
    let is : first ≡ g = cc in
    let r = unread_result functions root m n first.left.trail first.left.next
    (kept_trail_is_the_forest k.trail k.next functions root m)
    (kept_is_numbered k.trail (forest functions root m) k.next) same
    (subst (λ (f : FrameResult). AreNotOwed (differ (Some m) n) (asks f.left.trail)) (sym is) unread) in
    let small : nat_le (how_many (forest functions root n)) most_groups ≡ true =
    ap (λ t. nat_le (how_many t) most_groups) r.0 ∙ sym fits in
    subst (λ (f : FrameResult). frame functions f.left n ≡ Some (idle_result f.left n)) is
    (ap (λ b. option_map (good_frame first.left n) (if b then Some (forest functions root n) else None)) small
    ∙ ap Some r.1)
unread_of functions k m n g false fits e same unread = absurd cc

pub unread_changes_do_nothing : UnreadChangesDoNothing
unread_changes_do_nothing functions k m n g e tell longer unread =
    unread_of functions k m n g _ refl e (owed_is_what_changed m n longer tell) unread
