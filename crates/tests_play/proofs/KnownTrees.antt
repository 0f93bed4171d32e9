-- What a frame leaves of what a test knows of a composition and of its applier's tree.
use Rattle.std.proofs.Common.{◌≡◌, ◌<◌, ◌≤◌, ◌+◌, ◌==◌, ℕ, zero, suc, not, Bool, true, false, true≢false, List, [], ◌∷◌, length, Option, Some, None, Result, Ok, Err, if◌then◌else◌, refl, ap, sym, ◌∙◌, subst, arith}
use Rattle.std.proofs.lemmas.Bool.{eqb-true}
use Rattle.rt_values.specs.Maps.{Map, differ, entry_at}
use Rattle.rt_values.specs.declared.maps.StampedValue.{StampedValue}
use Rattle.rt_groups.specs.Frames.{LastFrame, no_last_frame, is_detached}
use Rattle.rt_groups.specs.declared.report.Report.{Report}
use Rattle.compose_model.specs.Frame.{FrameResult, kept_after}
use Rattle.rt_groups.specs.Nodes.{None as no_nodes}
use Rattle.node_tree.specs.NodeTrees.{CursorTree, tree_at_root}
use Rattle.snap_api.specs.Desks.{Follows, FollowsLast}
use Rattle.recomposer.specs.declared.composition.Composition.{Composition}
use Rattle.recomposer.specs.declared.composition.FrameStop.{FrameStop}
use Rattle.recomposer.specs.declared.composition.FrameStop.TheVariants.{TooManyGroups, ApplierFault, Spent, NoMemory}
use Rattle.recomposer.specs.AppliedFrames.{Mirrors, MayCall, tree_after_frame, kept_after_fault}
use Rattle.recomposer.specs.Compositions.{IsAt}
use Rattle.recomposer.specs.FrameContracts.{frame_result, ComposesShown, DrivesApplier}
use Rattle.tests_play.specs.KnownTrees.{HasOneObject, IsEarlier, IsBefore}

follows_one : (b e : StampedValue) → b.stamp < e.stamp → Follows (b ∷ []) (e ∷ [])
follows_one b e later = record { long = omega arith; stamps = at; values = same }
  where
    at : (x : ℕ) → x < length (b ∷ []) → (entry_at (b ∷ []) x).stamp ≤ (entry_at (e ∷ []) x).stamp
    at zero inside = omega (arith, later)
    at (suc x) inside = absurd (omega (arith, inside))

    same : (x : ℕ) → x < length (b ∷ []) → (entry_at (b ∷ []) x).stamp ≡ (entry_at (e ∷ []) x).stamp
        → (entry_at (b ∷ []) x).value ≡ (entry_at (e ∷ []) x).value
    same zero inside is = absurd (omega (arith, later, is))
    same (suc x) inside is = absurd (omega (arith, inside))

-- A map with a higher stamp may come next.
pub follows_last : (stamp : ℕ) (l : Option Map) (m : Map) → IsEarlier stamp l → HasOneObject stamp m → FollowsLast l m
follows_last stamp None m earlier one = tt
follows_last stamp (Some l) m earlier one =
    let before = earlier.1 in
    let less = earlier.2 in
    let old = before.stamp_is in
    let now = one.stamp_is in
    subst (λ n. Follows n m) (sym before.is)
    (subst (λ n. Follows (before.object ∷ []) n) (sym one.is)
    (follows_one before.object one.object (omega (arith, less, old, now))))

differs_one : (b e : StampedValue) → b.stamp < e.stamp → 0 ∷ [] ≡ differ (Some (b ∷ [])) (e ∷ [])
differs_one b e later = by (b.stamp == e.stamp) refl
  where
    by : (same : Bool) → (b.stamp == e.stamp) ≡ same
        → ◌≡◌ {A = List ℕ} (0 ∷ []) (if not same then 0 ∷ [] else [])
    by true is = let equal = eqb-true b.stamp e.stamp is in absurd (omega (arith, later, equal))
    by false is = refl

-- The only object changed.
pub changed_one : (stamp : ℕ) (l : Option Map) (m : Map) → IsEarlier stamp l → HasOneObject stamp m
    → 0 ∷ [] ≡ differ l m
changed_one stamp None m earlier one = ap (λ n. differ None n) (sym one.is)
changed_one stamp (Some l) m earlier one =
    let before = earlier.1 in
    let less = earlier.2 in
    let old = before.stamp_is in
    let now = one.stamp_is in
    differs_one before.object one.object (omega (arith, less, old, now))
    ∙ ap (λ n. differ (Some n) (one.object ∷ [])) (sym before.is) ∙ ap (λ n. differ (Some l) n) (sym one.is)

pub may_call : (tree : Option CursorTree) (at : LastFrame → Type 0) (k : LastFrame) → at k → Mirrors tree k
    → MayCall tree at
may_call None at k is mirrors = tt
may_call (Some t) at k is mirrors = record { kept = k; is_at = is; mirrors = mirrors }

after_good : (before now : Option CursorTree) (k : LastFrame) (good : Option FrameResult) → Mirrors before k
    → now ≡ tree_after_frame before good → Mirrors now (kept_after k good)
after_good before now k None mirrors e = subst (λ o. Mirrors o k) (sym e) mirrors
after_good None now k (Some good) mirrors e = subst (λ o. Mirrors o good.left) (sym e) tt
after_good (Some t) now k (Some good) mirrors e = subst (λ o. Mirrors o good.left) (sym e) (λ attached. refl)

after_fault : (now : Option CursorTree) (k : LastFrame) → is_detached k ≡ true → Mirrors now k
after_fault None k detached = tt
after_fault (Some t) k detached = λ attached. absurd (true≢false (sym detached ∙ attached))

stays_before : (stamp : ℕ) (c c' : Composition) (before now : Option CursorTree) (k : LastFrame) (m : Map)
    → IsAt c k (Some m) → HasOneObject stamp m → Mirrors before k → c' ≡ c → now ≡ before
    → IsBefore (stamp + 1) c' now
stays_before stamp c c' before now k m at one mirrors same tree = record {
  kept = k;
  last = Some m;
  is_at = subst (λ d. IsAt d k (Some m)) (sym same) at;
  earlier = (stamp, one, omega arith);
  mirrors = subst (λ o. Mirrors o k) (sym tree) mirrors;
}

-- The first frame of a new composition may come if the applier has no nodes.
pub at_first : (c : Composition) (tree : Option CursorTree) → ((l : Option Map) → IsAt c no_last_frame l)
    → tree ≡ Some (tree_at_root no_nodes) → IsBefore 1 c tree
at_first c tree at is = record {
  kept = no_last_frame;
  last = None;
  is_at = at None;
  earlier = tt;
  mirrors = subst (λ o. Mirrors o no_last_frame) (sym is) (λ attached. refl);
}

-- The first frame of a new composition may come if the applier does not know its tree.
pub at_first_unknown : (c : Composition) (tree : Option CursorTree) → ((l : Option Map) → IsAt c no_last_frame l)
    → tree ≡ None → IsBefore 1 c tree
at_first_unknown c tree at is = record {
  kept = no_last_frame;
  last = None;
  is_at = at None;
  earlier = tt;
  mirrors = subst (λ o. Mirrors o no_last_frame) (sym is) tt;
}

-- After a frame the next one may come, whether it was good, was refused, or its applier failed.
pub after_frame : {A : Type 0} (tree : A → Option CursorTree) (faults : A → ℕ) (old new : A) (c c' : Composition)
    (stamp : ℕ) (m : Map) (result : Result Report FrameStop) (k : LastFrame) → IsAt c k (Some m)
    → HasOneObject stamp m → Mirrors (tree old) k → ComposesShown c c' (λ n. m ≡ n) result
    → DrivesApplier tree faults old new c c' (λ n. m ≡ n) result → IsBefore (stamp + 1) c' (tree new)
after_frame tree faults old new c c' stamp m (Ok r) k at one mirrors composes drives = record {
  kept = kept_after k (frame_result c.program.now k m);
  last = Some m;
  is_at = composes.good k m at refl;
  earlier = (stamp, one, omega arith);
  mirrors = after_good (tree old) (tree new) k (frame_result c.program.now k m) mirrors
      ((drives.applied k m at refl).tree mirrors);
}
after_frame tree faults old new c c' stamp m (Err ApplierFault) k at one mirrors composes drives = record {
  kept = kept_after_fault k (frame_result c.program.now k m);
  last = Some m;
  is_at = composes.fault k m at refl refl;
  earlier = (stamp, one, omega arith);
  mirrors = after_fault (tree new) (kept_after_fault k (frame_result c.program.now k m))
      (composes.detached k m at refl refl);
}
after_frame tree faults old new c c' stamp m (Err TooManyGroups) k at one mirrors composes drives =
    stays_before stamp c c' (tree old) (tree new) k m at one mirrors composes.err drives.leaves.still
after_frame tree faults old new c c' stamp m (Err Spent) k at one mirrors composes drives =
    absurd (composes.not_spent refl)
after_frame tree faults old new c c' stamp m (Err NoMemory) k at one mirrors composes drives =
    stays_before stamp c c' (tree old) (tree new) k m at one mirrors composes.err drives.leaves.still
