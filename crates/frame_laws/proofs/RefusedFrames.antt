-- A frame that is refused for its size, and the frames after it.
use Rattle.std.proofs.Common.{ℕ, [], ◌∷◌, ◌≡◌, ◌≢◌, refl, ap, ◌∙◌, sym, subst, Option, Some, None, ◌||◌}
use Rattle.std.proofs.lemmas.List.{get_or-set_other}
use Rattle.std.specs.Option.{unwrap_or}
use Rattle.rt_values.specs.Maps.{Map, differ, contains}
use Rattle.snap_policy.specs.Rules.{Rules, KeepsTypes}
use Rattle.snap_api.proofs.LawsApplies.{valid_after}
use Rattle.snap_api.proofs.LawsCases.{Did, did, refused, took, took_for, got, left, wrote, joined, gone, closed}
use Rattle.snap_api.proofs.Takes.{call-TakeFor}
use Rattle.snap_api.proofs.ValidCalls.{valid_call}
use Rattle.snap_api.specs.Valid.{MovedOn}
use Rattle.snap_api.specs.World.{World, History, call, world_after, snapshot_of, last_of}
use Rattle.snap_api.specs.declared.data.Reply.{Reply}
use Rattle.snap_api.specs.declared.data.Request.{Request}
use Rattle.snap_api.specs.declared.data.Request.TheVariants as request
use Rattle.snap_api.specs.declared.data.Snapshot.{Snapshot}
use Rattle.compose_model.specs.Frame.{frame, kept_after}
use Rattle.world_laws.proofs.MapDifferences.{differ_of, lists_add_up}
use Rattle.frame_laws.specs.RefusedFrames.{RefusedLeavesNoTrace, TakeForOthers, RefusedThenGoodIsOneFrame}

pub refused_leaves_no_trace : RefusedLeavesNoTrace
refused_leaves_no_trace functions k m n e = ap (λ o. frame functions (kept_after k o) n) e

-- The last map of a watcher stays until a take for the watcher.

module _ {P : Type 0} (rules : Rules P) where
  last_stays : (w : World P) (caller watcher : ℕ) (q : Request) (out : World P × Reply) → Did rules w caller q out
      → q ≢ request.TakeFor watcher → last_of out.0 watcher ≡ last_of w watcher
  last_stays w caller watcher q out (refused request r) other = refl
  last_stays w caller watcher q out (took parent kind live) other = refl
  last_stays w caller watcher q out (took_for n) other =
      get_or-set_other w.lasts n watcher (Some (snapshot_of w 0).view) None
      (λ same. other (ap request.TakeFor (sym same)))
  last_stays w caller watcher q out (got n x) other = refl
  last_stays w caller watcher q out (left n x value) other = refl
  last_stays w caller watcher q out (wrote n x value live) other = refl
  last_stays w caller watcher q out (joined n m changed is live parent_live) other = refl
  last_stays w caller watcher q out (gone n) other = refl
  last_stays w caller watcher q out (closed n live) other = refl

  last_after : (w : World P) (watcher : ℕ) (h : History) → TakeForOthers watcher h
      → last_of (world_after rules w h) watcher ≡ last_of w watcher
  last_after w watcher [] others = refl
  last_after w watcher (e ∷ es) others =
      last_after (call rules w e.caller e.request).0 watcher es others.1
      ∙ last_stays w e.caller watcher e.request (call rules w e.caller e.request)
      (did rules w e.caller e.request) others.0

-- The lists of two takes, in which the first map is the last one of the second take.
lists_of_two : (last : Option Map) (m n : Map) (x : ℕ) → MovedOn (unwrap_or last []) m → MovedOn m n
    → contains x (differ last n) ≡ (contains x (differ last m) || contains x (differ (Some m) n))
lists_of_two last m n x first second =
    ap (λ xs. contains x xs) (differ_of last n)
    ∙ lists_add_up (unwrap_or last []) m n x first second
    ∙ ap (λ xs. contains x xs || contains x (differ (Some m) n)) (sym (differ_of last m))

pub refused_then_good_is_one_frame : {P : Type 0} (rules : Rules P) → KeepsTypes rules
    → RefusedThenGoodIsOneFrame rules
refused_then_good_is_one_frame rules keeps_types functions k w single caller watcher first second only early late once
    calls v answer too_large others later_answer same_global same_last only_answer =
    let taken = (call rules w caller (request.TakeFor watcher)).0 in
    let later = world_after rules taken calls in
    let one = call-TakeFor rules w caller watcher first early (sym answer) in
    let two = call-TakeFor rules later caller watcher second late (sym later_answer) in
    let took_single = call-TakeFor rules single caller watcher only once (sym only_answer) in
    let early_map : Map = (snapshot_of w 0).view in
    let late_map : Map = (snapshot_of later 0).view in
    let shown : (snapshot_of (call rules later caller (request.TakeFor watcher)).0 second).view ≡ late_map =
    ap (λ (s : Snapshot). s.view) two.shot in
    let shown_single : (snapshot_of (call rules single caller (request.TakeFor watcher)).0 only).view ≡ late_map =
    ap (λ (s : Snapshot). s.view) took_single.shot ∙ same_global in
    let last : last_of later watcher ≡ Some early_map = last_after rules taken watcher calls others ∙ one.last in
    let v_taken = valid_call v keeps_types caller (request.TakeFor watcher) in
    let v_later = valid_after rules keeps_types taken calls v_taken in
    let moved : MovedOn early_map late_map =
    subst (λ (o : Option Map). MovedOn (unwrap_or o []) late_map) last (v_later.seen watcher) in
    let early_is : early ≡ differ (last_of w watcher) early_map = one.listed in
    let late_is : late ≡ differ (Some early_map) late_map =
    two.listed ∙ ap (λ o. differ o late_map) last in
    let once_is : once ≡ differ (last_of w watcher) late_map =
    took_single.listed ∙ ap (λ o. differ o (snapshot_of single 0).view) same_last
    ∙ ap (λ m. differ (last_of w watcher) m) same_global in (
      refused_leaves_no_trace functions k (snapshot_of taken first).view
          (snapshot_of (call rules later caller (request.TakeFor watcher)).0 second).view too_large
          ∙ ap (λ m. frame functions k m) (shown ∙ sym shown_single),
      λ x. ap (λ xs. contains x xs) once_is
          ∙ lists_of_two (last_of w watcher) early_map late_map x (v.seen watcher) moved
          ∙ ap (λ xs. contains x xs || contains x (differ (Some early_map) late_map)) (sym early_is)
          ∙ ap (λ xs. contains x early || contains x xs) (sym late_is),
    )
