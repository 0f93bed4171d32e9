-- The frames of a seat's desk.
use Rattle.std.proofs.Common.{ℕ, List, ◌≡◌, ◌++◌, ◌∷◌, [], refl, sym, ap, ◌∙◌, subst, Option, Some, None, Result, Ok, Err, IfOk, IfErr, OnErr, append_assoc}
use Rattle.std.proofs.lemmas.Option.{same_Some as some_same}
use Rattle.rt_values.specs.Maps.{Map}
use Rattle.rt_values.specs.declared.value.Ty.{Ty}
use Rattle.rt_groups.specs.Frames.{LastFrame}
use Rattle.rt_groups.specs.declared.report.Report.{Report}
use Rattle.compose_model.specs.Frame.{FrameResult}
use Rattle.lang_ast.specs.declared.program.Program.{Program}
use Rattle.recomposer.specs.declared.composition.Begun.{Begun}
use Rattle.recomposer.specs.declared.composition.Composition.{Composition}
use Rattle.recomposer.specs.declared.composition.FrameStop.{FrameStop}
use Rattle.node_tree.specs.NodeTrees.{CursorTree}
use Rattle.recomposer.specs.AppliedFrames.{MayCall}
use Rattle.recomposer.specs.Compositions.{IsAt, BeginsFrame, MakesFrame, MakesNoFrame, LogsFrame, LogsNoFrame}
use Rattle.recomposer.specs.FrameContracts.{KnowsLast, RepliesToTake}
use Rattle.snap_policy.specs.Rules.{Rules}
use Rattle.snap_api.specs.Calls.{Logs}
use Rattle.snap_api.specs.World.{World}
use Rattle.snap_api.specs.declared.data.Entry.{Entry}
use Rattle.snap_api.specs.declared.data.Reply.{Reply}
use Rattle.snap_api.specs.declared.data.Reply.TheVariants as reply
use Rattle.snap_api.specs.declared.data.Request.TheVariants as request
use Rattle.snap_shared.specs.SeatDesk.{SeesMap, SeesFurther, IsOnlyTaker, objects_read}
use Rattle.snap_shared.specs.Seats.{opening_of, seat_number, seen_by, mine_of, IsSeat}
use Rattle.snap_shared.specs.SharedCalls.{own_calls}
use Rattle.snap_shared.specs.declared.shared.Seat.{Seat}
use Rattle.snap_shared.specs.declared.shared.Shared.{Shared}
use Rattle.recompose_seats.specs.SeatFrames.{ReturnsSeat, HasLast, ShowsIn, HasTaken, MakesThrough}
use Rattle.recompose_seats.proofs.TakePlaces.{TakesNone, reads_take_none, map_at_take}

-- An applier that knows no tree may always be called.
pub no_tree_may : (t : Option CursorTree) (at : LastFrame → Type 0) → t ≡ None → MayCall t at
no_tree_may t at e = subst (λ (o : Option CursorTree). MayCall o at) (sym e) tt

module _ {W P : Type 0} (rules : Rules P) (stands : W → World P → Type 0) (shared : Shared W P) (before after : Seat W)
    (watcher : ℕ) (types : List Ty)
    (same : seat_number after ≡ seat_number before) (only : IsOnlyTaker (seat_number after) watcher (seen_by after)) where
  taken_with : (name : ℕ) (changed : List ℕ) (ys : List Entry) (m : Map) →
      mine_of after ≡ mine_of before
      ++ record {
        caller = seat_number before;
        request = request.TakeFor watcher;
        reply = reply.TakenFor name changed;
      } ∷ ys →
      TakesNone watcher ys → HasLast rules stands shared after watcher types (Some m)
      → HasTaken rules stands shared before after watcher types (Some m)
  taken_with name changed ys m grew none last = (
    last,
    map_at_take rules (stands (opening_of shared)) (seen_by after) (mine_of before) (seat_number before) watcher name
        changed ys types m
        (ap (λ (n : ℕ). own_calls n (seen_by after)) (sym same) ∙ grew) none
        (subst (λ (n : ℕ). IsOnlyTaker n watcher (seen_by after)) same only) last,
  )

  -- A frame that has begun took its map at one place of the history.
  pub begun_taken : {at_map : Option Map → Type 0} {shows : Map → Type 0} {l : Option Map} {name : ℕ}
      {changed : List ℕ} →
      Logs (Some (mine_of before)) (Some (mine_of after)) (seat_number before) (request.TakeFor watcher)
      (reply.TakenFor name changed) →
      BeginsFrame at_map shows (λ k. HasLast rules stands shared after watcher types k) l name changed →
      BeginsFrame at_map shows (λ k. HasTaken rules stands shared before after watcher types k) l name changed
  begun_taken {name = name} {changed = changed} logged b = record {
    map = b.map;
    at_now = b.at_now;
    shown = b.shown;
    is_last = taken_with name changed [] b.map (some_same _ _ logged) tt b.is_last;
    changed_is = b.changed_is;
    inner = b.inner;
  }

  -- A whole frame took its map at one place of the history.
  pub frame_taken : {p : Program} {k : LastFrame} {at_frame : LastFrame → Option Map → Type 0}
      {applies : Option FrameResult → Type 0} {told : Report} →
      MakesFrame p k at_frame (λ l. HasLast rules stands shared after watcher types l)
      (λ xs. (objects_read (mine_of after) ≡ objects_read (mine_of before) ++ xs)
      × LogsFrame (Some (mine_of before)) (Some (mine_of after)) (seat_number before) watcher xs) applies told →
      MakesFrame p k at_frame (λ l. HasTaken rules stands shared before after watcher types l)
      (λ xs. (objects_read (mine_of after) ≡ objects_read (mine_of before) ++ xs)
      × LogsFrame (Some (mine_of before)) (Some (mine_of after)) (seat_number before) watcher xs) applies told
  frame_taken f =
      let whole = f.done.1 in
      let take : Entry = record {
        caller = seat_number before;
        request = request.TakeFor watcher;
        reply = reply.TakenFor whole.name whole.changed;
      } in
      let dispose : Entry = record {
        caller = seat_number before;
        request = request.Dispose whole.name;
        reply = reply.Disposed;
      } in
      let grew : mine_of after ≡ mine_of before ++ take ∷ (whole.rest.more ++ dispose ∷ []) =
      some_same _ _ whole.rest.log_is ∙ append_assoc (mine_of before ++ take ∷ []) whole.rest.more (dispose ∷ [])
      ∙ append_assoc (mine_of before) (take ∷ []) (whole.rest.more ++ dispose ∷ []) in
      record {
        map = f.map;
        is_at = f.is_at;
        is_last = taken_with whole.name whole.changed (whole.rest.more ++ dispose ∷ []) f.map grew
            (reads_take_none watcher (seat_number before) whole.name whole.rest.more _ dispose refl whole.rest.reads)
            f.is_last;
        told_is = f.told_is;
        done = f.done;
        applied = f.applied;
        quiet = f.quiet;
      }

-- `other` is the shared world of the desk after the frame, `after` is the desk's seat then, and `back` is the seat that
-- returns.
module _ {W P : Type 0} (rules : Rules P) (stands : W → World P → Type 0) (shared other : Shared W P)
    (before after back : Seat W) (watcher : ℕ) (types : List Ty)
    (same_world : other ≡ shared) (is_back : back ≡ after) (same : seat_number after ≡ seat_number before)
    (only : IsOnlyTaker (seat_number back) watcher (seen_by back)) where
  -- The watcher's last map.
  pub last_back : (l : Option Map) → HasLast rules stands other after watcher types l
      → HasLast rules stands shared back watcher types l
  last_back l h = subst (λ (s : Seat W). HasLast rules stands shared s watcher types l) (sym is_back)
      (subst (λ (v : Shared W P). HasLast rules stands v after watcher types l) same_world h)

  pub last_stays : {U : Type 0} (l : Option Map) (r : Result U FrameStop)
      → OnErr r (HasLast rules stands other after watcher types l)
      → OnErr r (HasLast rules stands shared back watcher types l)
  last_stays l (Ok u) h = tt
  last_stays l (Err e) h = last_back l h

  begun_back : {at_map : Option Map → Type 0} {l : Option Map} (opened : Option ℕ) (name : ℕ) (changed : List ℕ)
      → opened ≡ Some name →
      Logs (Some (mine_of before)) (Some (mine_of after)) (seat_number before) (request.TakeFor watcher)
      (reply.TakenFor name changed) →
      BeginsFrame at_map (λ m. SeesMap rules (stands (opening_of other)) (seen_by after) (seat_number after) opened m)
      (λ k. HasLast rules stands other after watcher types k) l name changed →
      BeginsFrame at_map (λ m. ShowsIn rules stands shared back name m)
      (λ k. HasTaken rules stands shared before back watcher types k) l name changed
  begun_back {at_map} {l} opened name changed is logged b =
      let here = subst (λ (v : Shared W P). BeginsFrame at_map
      (λ m. SeesMap rules (stands (opening_of v)) (seen_by after) (seat_number after) opened m)
      (λ k. HasLast rules stands v after watcher types k) l name changed) same_world b in
      let of_back = subst (λ (s : Seat W). BeginsFrame at_map
      (λ m. SeesMap rules (stands (opening_of shared)) (seen_by s) (seat_number s) opened m)
      (λ k. HasLast rules stands shared s watcher types k) l name changed) (sym is_back) here in
      let named = subst (λ (o : Option ℕ). BeginsFrame at_map
      (λ m. SeesMap rules (stands (opening_of shared)) (seen_by back) (seat_number back) o m)
      (λ k. HasLast rules stands shared back watcher types k) l name changed) is of_back in
      begun_taken rules stands shared before back watcher types (ap seat_number is_back ∙ same) only
      (subst (λ (s : Seat W). Logs (Some (mine_of before)) (Some (mine_of s)) (seat_number before)
      (request.TakeFor watcher) (reply.TakenFor name changed)) (sym is_back) logged) named

  -- A good beginning of a frame.
  pub begun_ok : {calls : Reply → Type 0} {known : Type 0} (at_map : Option Map → Type 0) (l : Option Map)
      (opened : Option ℕ) (r : Result Begun FrameStop) → IfOk r (λ b. opened ≡ Some b.name) →
      RepliesToTake (λ y. calls y
      × Logs (Some (mine_of before)) (Some (mine_of after)) (seat_number before) (request.TakeFor watcher) y) known r →
      IfOk r (λ b. BeginsFrame at_map
      (λ m. SeesMap rules (stands (opening_of other)) (seen_by after) (seat_number after) opened m)
      (λ k. HasLast rules stands other after watcher types k) l b.name b.changed) →
      IfOk r (λ b. BeginsFrame at_map (λ m. ShowsIn rules stands shared back b.name m)
      (λ k. HasTaken rules stands shared before back watcher types k) l b.name b.changed)
  begun_ok at_map l opened (Ok b) is take f = begun_back opened b.name b.changed is take.taken.1 f
  begun_ok at_map l opened (Err e) is take f = tt

  abbrev Does : Seat W → List ℕ → Type 0
  Does s xs = (objects_read (mine_of s) ≡ objects_read (mine_of before) ++ xs)
      × LogsFrame (Some (mine_of before)) (Some (mine_of s)) (seat_number before) watcher xs

  frame_back : {p : Program} {k : LastFrame} {at_frame : LastFrame → Option Map → Type 0}
      {applies : Option FrameResult → Type 0} {told : Report} →
      MakesFrame p k at_frame (λ l. HasLast rules stands other after watcher types l) (Does after) applies told →
      MakesFrame p k at_frame (λ l. HasTaken rules stands shared before back watcher types l) (Does back) applies told
  frame_back {p} {k} {at_frame} {applies} {told} f =
      let here = subst (λ (v : Shared W P). MakesFrame p k at_frame (λ l. HasLast rules stands v after watcher types l)
      (Does after) applies told) same_world f in
      let of_back = subst (λ (s : Seat W). MakesFrame p k at_frame (λ l. HasLast rules stands shared s watcher types l)
      (Does s) applies told) (sym is_back) here in
      frame_taken rules stands shared before back watcher types (ap seat_number is_back ∙ same) only of_back

  -- A good frame. `c` is the composition after it.
  pub frame_ok : (old c : Composition) → c.program ≡ old.program → c.watcher ≡ old.watcher → old.watcher ≡ watcher
      → (k : LastFrame) (applies : Option FrameResult → Type 0) (r : Result Report FrameStop) →
      IfOk r (MakesFrame old.program.now k (IsAt c) (λ l. HasLast rules stands other after watcher types l) (Does after)
      applies) →
      IfOk r (MakesThrough rules stands shared c k before back types applies)
  frame_ok old c program same_watcher is k applies (Ok told) f =
      let made = subst (λ (p : Program). MakesFrame p k (IsAt c)
      (λ l. HasTaken rules stands shared before back watcher types l) (Does back) applies told)
      (ap (λ q. q.now) (sym program)) (frame_back f) in
      with_watcher (c.watcher) (sym is ∙ sym same_watcher) made
    where
      with_watcher : (n : ℕ) → watcher ≡ n
          → MakesFrame c.program.now k (IsAt c) (λ l. HasTaken rules stands shared before back watcher types l)
          (Does back) applies told →
          MakesFrame c.program.now k (IsAt c) (λ l. HasTaken rules stands shared before back n types l)
          (λ xs. (objects_read (mine_of back) ≡ objects_read (mine_of before) ++ xs)
          × LogsFrame (Some (mine_of before)) (Some (mine_of back)) (seat_number before) n xs) applies told
      with_watcher n e made = subst (λ (w : ℕ). MakesFrame c.program.now k (IsAt c)
          (λ l. HasTaken rules stands shared before back w types l)
          (λ xs. (objects_read (mine_of back) ≡ objects_read (mine_of before) ++ xs)
          × LogsFrame (Some (mine_of before)) (Some (mine_of back)) (seat_number before) w xs) applies told) e made
  frame_ok old c program same_watcher is k applies (Err e) f = tt

  -- A frame that was not made.
  pub frame_err : (p : Program) (k : LastFrame) (at_frame : LastFrame → Option Map → Type 0)
      (r : Result Report FrameStop) →
      IfErr r (MakesNoFrame p k at_frame (λ l. HasLast rules stands other after watcher types l) (Does after)
      (LogsNoFrame p k (Some (mine_of before)) (Some (mine_of after)) (seat_number before) watcher)) →
      IfErr r (MakesNoFrame p k at_frame (λ l. HasLast rules stands shared back watcher types l) (Does back)
      (LogsNoFrame p k (Some (mine_of before)) (Some (mine_of back)) (seat_number before) watcher))
  frame_err p k at_frame r f =
      subst (λ (s : Seat W). IfErr r
      (MakesNoFrame p k at_frame (λ l. HasLast rules stands shared s watcher types l) (Does s)
      (LogsNoFrame p k (Some (mine_of before)) (Some (mine_of s)) (seat_number before) watcher))) (sym is_back)
      (subst (λ (v : Shared W P). IfErr r
      (MakesNoFrame p k at_frame (λ l. HasLast rules stands v after watcher types l) (Does after)
      (LogsNoFrame p k (Some (mine_of before)) (Some (mine_of after)) (seat_number before) watcher))) same_world
      f)

-- The take of a frame in the caller's own calls.
pub take_back : {W : Type 0} {calls : Reply → Type 0} (last : List Ty → Option Map → Type 0)
    (before after back : Seat W) (watcher : ℕ) (r : Result Begun FrameStop) → back ≡ after →
    RepliesToTake (λ y. calls y
    × Logs (Some (mine_of before)) (Some (mine_of after)) (seat_number before) (request.TakeFor watcher) y)
    (KnowsLast last (IsOnlyTaker (seat_number after) watcher (seen_by after))) r →
    RepliesToTake (Logs (Some (mine_of before)) (Some (mine_of back)) (seat_number before) (request.TakeFor watcher))
    (KnowsLast last (IsOnlyTaker (seat_number back) watcher (seen_by back))) r
take_back {W} {calls} last before after back watcher r is_back h =
    subst (λ (s : Seat W). RepliesToTake
    (Logs (Some (mine_of before)) (Some (mine_of s)) (seat_number before) (request.TakeFor watcher))
    (KnowsLast last (IsOnlyTaker (seat_number s) watcher (seen_by s))) r) (sym is_back) (logged r h)
  where
    logged : (q : Result Begun FrameStop) →
        RepliesToTake (λ y. calls y
        × Logs (Some (mine_of before)) (Some (mine_of after)) (seat_number before) (request.TakeFor watcher) y)
        (KnowsLast last (IsOnlyTaker (seat_number after) watcher (seen_by after))) q →
        RepliesToTake
        (Logs (Some (mine_of before)) (Some (mine_of after)) (seat_number before) (request.TakeFor watcher))
        (KnowsLast last (IsOnlyTaker (seat_number after) watcher (seen_by after))) q
    logged (Ok b) h = record { taken = h.taken.1; refused = λ known. tt }
    logged (Err e) h = record { taken = tt; refused = λ known. (h.refused known).1 }

-- The seat of a desk returns. `shared` is the shared world of the desk before the calls, `other` the one after them.
pub seat_returns : {W P : Type 0} (rules : Rules P) (stands : W → World P → Type 0) (shared other : Shared W P)
    (before after back : Seat W) → other ≡ shared → back ≡ after → IsSeat other after
    → seat_number after ≡ seat_number before → SeesFurther rules (stands (opening_of shared)) (seen_by before) (seen_by after)
    → ReturnsSeat rules stands shared before back
seat_returns {W} rules stands shared other before after back same_world is_back fits number further =
    subst (λ (s : Seat W). ReturnsSeat rules stands shared before s) (sym is_back) (record {
      fits = subst (λ (v : Shared W _). IsSeat v after) same_world fits;
      number = number;
      further = further;
    })
