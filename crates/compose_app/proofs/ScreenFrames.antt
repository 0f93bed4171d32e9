-- A frame of a screen.
use Rattle.std.proofs.Common.{◌≡◌, ◌<◌, ◌∙◌, ◌∷◌, [], ℕ, List, length, inl, inr, refl, sym, ap, subst, arith, Bool, true, false, not, nat_lt, Option, Some, None, Result, Ok, Err}
use Rattle.std.specs.Prelude.{IfOk, IfErr, slice_index_or}
use Rattle.std.specs.Option.{option_map, unwrap_or}
use Rattle.std.proofs.lemmas.Bool.Decides.{eqb_tells}
use Rattle.rt_values.specs.Maps.{Map, differ, entry_at}
use Rattle.rt_groups.specs.declared.report.Report.{Report}
use Rattle.rt_groups.specs.Frames.{LastFrame, is_detached, no_last_frame}
use Rattle.rt_groups.specs.Nodes.{Nodes, nodes}
use Rattle.compose_model.specs.Frame.{FrameResult, frame, kept_after}
use Rattle.lang_ast.specs.declared.program.Program.{Program}
use Rattle.lang_ast.specs.Programs.{functions_of}
use Rattle.lang_ast.specs.declared.program.State.{State}
use Rattle.lang_script.specs.StepCalls.{opening_world}
use Rattle.compose_app.specs.Openings.{IsOpening}
use Rattle.node_tree.specs.declared.ops.Op.{Op}
use Rattle.node_tree.specs.NodeTrees.{CursorTree, tree_at_root}
use Rattle.snap_policy.specs.declared.policy.BuiltIn.{BuiltIn}
use Rattle.snap_policy.specs.Table.{table}
use Rattle.snap_policy.specs.TableLaws.{table_merge_keeps_type}
use Rattle.snap_api.proofs.Recording.{refused_stands}
use Rattle.snap_api.proofs.Takes.{TookFor, call-TakeFor, took_eyes}
use Rattle.snap_api.proofs.ValidCalls.{valid_call}
use Rattle.snap_api.specs.Calls.{Calls}
use Rattle.snap_api.specs.Desks.{FollowsLast}
use Rattle.snap_api.specs.ShownMap.{ShownMap}
use Rattle.snap_api.specs.Valid.{IsValid, MovedOn, View, Last}
use Rattle.snap_api.specs.World.{World, call, last_of, is_spent, clock_limit, refusal_or_effect, world_after_take_for}
use Rattle.snap_api.specs.declared.data.Refusal.{Refusal}
use Rattle.snap_api.specs.declared.data.Refusal.TheVariants as refusal
use Rattle.snap_api.specs.declared.data.Reply.{Reply}
use Rattle.snap_api.specs.declared.data.Reply.TheVariants as reply
use Rattle.snap_api.specs.declared.data.Request.TheVariants as request
use Rattle.recomposer.specs.AppliedFrames.{Mirrors, MayCall, Applies, kept_after_fault}
use Rattle.recomposer.specs.Compositions.{IsAt}
use Rattle.recomposer.specs.FrameContracts.{ComposesShown, DrivesApplier, KeepsCalls, frame_result}
use Rattle.recomposer.specs.declared.composition.Composition.{Composition}
use Rattle.recomposer.specs.declared.composition.FrameStop.{FrameStop}
use Rattle.recomposer.specs.declared.composition.FrameStop.TheVariants.{TooManyGroups, ApplierFault, Spent, NoMemory}
use Rattle.compose_app.specs.Screens.{ScreenParts, screen_parts, IsScreenAt, IsReadyScreen, global_map, screen_frame, world_after_frame, ShowsFrame, StopsFrame, MakesScreenFrame}
use Rattle.compose_app.proofs.ScreenCalls.{moved, plain_lasts}

follows_of : (l : Option Map) (m : Map) → MovedOn (unwrap_or l []) m →
    ((x : ℕ) → x < length (unwrap_or l []) → x < length m → (entry_at (unwrap_or l []) x).stamp ≡ (entry_at m x).stamp
    → (entry_at (unwrap_or l []) x).value ≡ (entry_at m x).value) → FollowsLast l m
follows_of None m moved_on agree = tt
follows_of (Some l) m moved_on agree = record {
  long = moved_on.longer;
  stamps = moved_on.stamps;
  values = λ x within same. agree x within (let long = moved_on.longer in omega arith) same;
}

-- The values of the states may come after the watcher's last map.
follows_last : (w : World BuiltIn) → IsValid table w → FollowsLast (last_of w 0) (global_map w)
follows_last w valid = follows_of (last_of w 0) (global_map w) (valid.seen 0)
    (λ x one other same. valid.agree (Last 0) (View 0) x one other same)

-- A take that is refused for the clock finds it at its limit.
spent_told : (w : World BuiltIn) (s t : Bool) (effect : World BuiltIn × Reply) (name : ℕ) (changed : List ℕ)
    → effect.1 ≡ reply.TakenFor name changed → reply.Refused refusal.Spent ≡
    (refusal_or_effect w ((s, refusal.Spent) ∷ (t, refusal.UnknownWatcher) ∷ []) effect).1 → s ≡ true
spent_told w true t effect name changed is e = refl
spent_told w false true effect name changed is e = absurd cc
spent_told w false false effect name changed is e = absurd cc

at_limit : (w : World BuiltIn) → is_spent w ≡ true → w.clock ≡ clock_limit
at_limit w spent = elim (eqb_tells w.clock clock_limit) [ inl e ↦ e.1 | inr e ↦ absurd cc ]

mirrored : (t : Option CursorTree) (k : LastFrame) (ns : Nodes) → ns ≡ nodes k.trail
    → Mirrors (option_map (λ u. tree_at_root ns) t) k
mirrored None k ns same = tt
mirrored (Some t) k ns same = λ attached. ap tree_at_root same

detached : (t : Option CursorTree) (k : LastFrame) → is_detached k ≡ true → Mirrors t k
detached None k gone = tt
detached (Some t) k gone = λ attached. absurd cc

module _ {V A : Type 0} (stands : V → World BuiltIn → Type 0) (tree : A → Option CursorTree) (faults : A → ℕ)
    (p : Program) where
  -- A frame that has begun: its snapshot shows the values of the states, and the composition has noted what changed.
  pub record Began (c : Composition) (v : V) (k : LastFrame) (w : World BuiltIn) (name : ℕ) : Type 0 where
    pub changed : List ℕ
    pub took : TookFor w (call table w 0 (request.TakeFor 0)).0 0 0 name changed
    pub mid : stands v (call table w 0 (request.TakeFor 0)).0
    pub shown : ShownMap table (stands v) 0 (Some name) (global_map w)
    pub is_at : IsAt c k (Some (global_map w))
    pub inner : 0 < name
    pub program : c.program.now ≡ p
    pub watcher : c.watcher ≡ 0

  module _ {c c' : Composition} {a : A} {v v' : V} {name : ℕ} {changed : List ℕ}
      (does : Calls table (stands v) (stands v') 0 (request.TakeFor 0) (reply.TakenFor name changed))
      (noted : (k : LastFrame) (l : Option Map) (m : Map) → IsAt c k l → FollowsLast l m → changed ≡ differ l m
      → IsAt c' k (Some m))
      (calls : KeepsCalls c c') where
    pub began : (k : LastFrame) (w : World BuiltIn) → IsScreenAt stands tree (screen_parts p c v a) k w
        → Began c' v' k w name
    began k w h =
        let told = does w h.represents in
        let took = call-TakeFor table w 0 0 name changed told.0 in
        record {
          changed = changed;
          took = took;
          mid = told.1;
          shown = took_eyes took table (stands v') h.valid.shaped
              (valid_call h.valid table_merge_keeps_type 0 (request.TakeFor 0)) told.1;
          is_at = noted k (last_of w 0) (global_map w) h.kept (follows_last w h.valid) took.listed;
          inner = omega (arith, took.named, h.valid.shaped.some);
          program = ap (λ q. q.now) calls.settings.program ∙ h.program;
          watcher = calls.settings.watcher ∙ h.watcher;
        }

    -- The applier may be called in the frame.
    pub may_call : IsReadyScreen stands tree (screen_parts p c v a) → MayCall (tree a)
        (λ k. (m : Map) × IsAt c' k (Some m) × ShownMap table (stands v') 0 (Some name) m)
    may_call ready =
        let b = began ready.kept ready.world ready.is_at in
        may (tree a) (global_map ready.world, b.is_at, b.shown) ready.is_at.mirrors
      where
        may : (t : Option CursorTree) → ((m : Map) × IsAt c' ready.kept (Some m)
            × ShownMap table (stands v') 0 (Some name) m) → Mirrors t ready.kept → MayCall t
            (λ k. (m : Map) × IsAt c' k (Some m) × ShownMap table (stands v') 0 (Some name) m)
        may None at mirrors = tt
        may (Some t) at mirrors = record { kept = ready.kept; is_at = at; mirrors = mirrors }

  module _ {c c' : Composition} {a a' : A} {v v' : V} {name : ℕ} {result : Result Report FrameStop}
      (k : LastFrame) (w : World BuiltIn) (b : Began c v k w name)
      (composes : ComposesShown c c' (ShownMap table (stands v) 0 (Some name)) result)
      (drives : DrivesApplier tree faults a a' c c' (ShownMap table (stands v) 0 (Some name)) result)
      (ends : (m : Map) → ShownMap table (stands v) 0 (Some name) m → 0 < name
      → Calls table (stands v) (stands v') 0 (request.Dispose name) reply.Disposed) where
    abbrev m : Map
    m = global_map w

    same_result : frame_result c.program.now k m ≡ screen_frame p k w
    same_result = ap (λ (q : Program). frame (functions_of q) k m) b.program

    abbrev after_take : World BuiltIn
    after_take = (call table w 0 (request.TakeFor 0)).0

    stood : stands v' (world_after_frame w)
    stood = subst (λ n. stands v' (call table after_take 0 (request.Dispose n)).0) b.took.named
        (ends m b.shown b.inner after_take b.mid).1

    lasts : (world_after_frame w).lasts ≡ after_take.lasts
    lasts = plain_lasts after_take 0 (request.Dispose (length w.snapshots)) tt

    -- The screen is in this state after the frame.
    framed : IsValid table w → 0 < length w.lasts → (k' : LastFrame) → IsAt c' k' (Some m) → Mirrors (tree a') k'
        → IsScreenAt stands tree (screen_parts p c' v' a') k' (world_after_frame w)
    framed valid watched k' at mirrors = record {
      represents = stood;
      valid = valid_call (valid_call valid table_merge_keeps_type 0 (request.TakeFor 0)) table_merge_keeps_type 0
          (request.Dispose (length w.snapshots));
      watched = omega (arith, watched, b.took.watchers, ap (λ (ls : List (Option Map)). length ls) lasts);
      watcher = composes.settings.watcher ∙ b.watcher;
      program = ap (λ q. q.now) composes.settings.program ∙ b.program;
      kept = subst (λ l. IsAt c' k' l)
          (sym (ap (λ (ls : List (Option Map)). slice_index_or ls 0 None) lasts ∙ b.took.last)) at;
      mirrors = mirrors;
    }

    shows_made : (good : Option FrameResult) (report : Report) (made : List Op) → IsValid table w → 0 < length w.lasts
        → Mirrors (tree a) k → Some report ≡ option_map (λ g. g.told) good
        → IsAt c' (kept_after k good) (Some m) → Applies (tree a) (tree a') made k good
        → ShowsFrame (IsScreenAt stands tree (screen_parts p c' v' a')) good w (tree a) (tree a') report
    shows_made None report made valid watched mirrors told at applies = absurd cc
    shows_made (Some good) report made valid watched mirrors told at applies =
        let same = applies.tree mirrors in
        record {
          made = good;
          is = refl;
          reports = cc;
          is_at = framed valid watched good.left at
              (subst (λ t. Mirrors t good.left) (sym same) (mirrored (tree a) good.left (nodes good.left.trail) refl));
          shows = same;
        }

  module _ {c c' : Composition} {a a' : A} {v v' : V} {name : ℕ}
      (k : LastFrame) (w : World BuiltIn) (b : Began c v k w name) (valid : IsValid table w)
      (watched : 0 < length w.lasts) (mirrors : Mirrors (tree a) k)
      (ends : (m : Map) → ShownMap table (stands v) 0 (Some name) m → 0 < name
      → Calls table (stands v) (stands v') 0 (request.Dispose name) reply.Disposed) where
    shows_frame : (result : Result Report FrameStop)
        → ComposesShown c c' (ShownMap table (stands v) 0 (Some name)) result
        → DrivesApplier tree faults a a' c c' (ShownMap table (stands v) 0 (Some name)) result
        → IfOk result (ShowsFrame (IsScreenAt stands tree (screen_parts p c' v' a')) (screen_frame p k w) w (tree a)
        (tree a'))
    shows_frame (Err stop) composes drives = tt
    shows_frame (Ok report) composes drives =
        subst (λ (g : Option FrameResult). ShowsFrame (IsScreenAt stands tree (screen_parts p c' v' a')) g w (tree a)
        (tree a') report) (same_result k w b composes drives ends)
        (shows_made k w b composes drives ends (frame_result c.program.now k (global_map w)) report c'.ops valid watched
        mirrors (composes.report k (global_map w) b.is_at b.shown)
        (composes.good k (global_map w) b.is_at b.shown) (drives.applied k (global_map w) b.is_at b.shown))

    still_at : (result : Result Report FrameStop)
        → ComposesShown c c' (ShownMap table (stands v) 0 (Some name)) result
        → DrivesApplier tree faults a a' c c' (ShownMap table (stands v) 0 (Some name)) result
        → c' ≡ c → tree a' ≡ tree a → IsScreenAt stands tree (screen_parts p c' v' a') k (world_after_frame w)
    still_at result composes drives same kept = framed k w b composes drives ends valid watched k
        (subst (λ (q : Composition). IsAt q k (Some (global_map w))) (sym same) b.is_at)
        (subst (λ t. Mirrors t k) (sym kept) mirrors)

    stops_frame : (result : Result Report FrameStop)
        → ComposesShown c c' (ShownMap table (stands v) 0 (Some name)) result
        → DrivesApplier tree faults a a' c c' (ShownMap table (stands v) 0 (Some name)) result
        → IfErr result (StopsFrame (IsScreenAt stands tree (screen_parts p c' v' a')) (screen_frame p k w) k w)
    stops_frame (Ok report) composes drives = tt
    stops_frame (Err TooManyGroups) composes drives = (
      sym (same_result k w b composes drives ends) ∙ composes.many k (global_map w) b.is_at b.shown refl,
      still_at (Err TooManyGroups) composes drives composes.err drives.leaves.still,
    )
    stops_frame (Err Spent) composes drives = absurd (composes.not_spent refl)
    stops_frame (Err NoMemory) composes drives =
        inr (still_at (Err NoMemory) composes drives composes.err drives.leaves.still)
    stops_frame (Err ApplierFault) composes drives =
        let same = same_result k w b composes drives ends in
        let gone = composes.detached k (global_map w) b.is_at b.shown refl in
        let at = composes.fault k (global_map w) b.is_at b.shown refl in
        subst (λ (g : Option FrameResult). (is_detached (kept_after_fault k g) ≡ true)
        × IsScreenAt stands tree (screen_parts p c' v' a') (kept_after_fault k g) (world_after_frame w)) same (
          gone,
          framed k w b composes drives ends valid watched
              (kept_after_fault k (frame_result c.program.now k (global_map w))) at (detached (tree a') _ gone),
        )

  -- A frame that has begun makes the screen's frame.
  pub finished : {c c' c'' : Composition} {a a' : A} {v v' v'' : V} {name : ℕ} {changed : List ℕ}
      {result : Result Report FrameStop} →
      Calls table (stands v) (stands v') 0 (request.TakeFor 0) (reply.TakenFor name changed)
      → ((k : LastFrame) (l : Option Map) (m : Map) → IsAt c k l → FollowsLast l m → changed ≡ differ l m
      → IsAt c' k (Some m)) → KeepsCalls c c'
      → ComposesShown c' c'' (ShownMap table (stands v') 0 (Some name)) result
      → DrivesApplier tree faults a a' c' c'' (ShownMap table (stands v') 0 (Some name)) result
      → ((m : Map) → ShownMap table (stands v') 0 (Some name) m → 0 < name
      → Calls table (stands v') (stands v'') 0 (request.Dispose name) reply.Disposed)
      → MakesScreenFrame stands tree faults (screen_parts p c v a) (screen_parts p c'' v'' a') result
  finished {result = result} does noted calls composes drives ends = record {
    good = λ k w h. shows_frame k w (began does noted calls k w h) h.valid h.watched h.mirrors ends result composes drives;
    err = λ k w h. stops_frame k w (began does noted calls k w h) h.valid h.watched h.mirrors ends result composes drives;
    quiet = λ k w h owes. (let b = began does noted calls k w h in
        (drives.quiet k (global_map w) b.is_at b.shown owes).0);
    still = drives.leaves.still;
    cause = drives.leaves.cause;
    program = refl;
  }

  -- The take of a frame that does not begin leaves the screen.
  module _ {c : Composition} {a : A} {v v' : V} (e : Refusal)
      (does : Calls table (stands v) (stands v') 0 (request.TakeFor 0) (reply.Refused e)) where
    pub left_at : (k : LastFrame) (w : World BuiltIn) → IsScreenAt stands tree (screen_parts p c v a) k w
        → IsScreenAt stands tree (screen_parts p c v' a) k w
    left_at k w h = moved stands tree p c a v v' k w w h
        (refused_stands table (stands v) (stands v') 0 [] (request.TakeFor 0) e does w h.represents) h.valid refl

    pub out_of_memory : MakesScreenFrame stands tree faults (screen_parts p c v a) (screen_parts p c v' a)
        (Err NoMemory)
    out_of_memory = record {
      good = λ k w h. tt;
      err = λ k w h. inl (left_at k w h);
      quiet = λ k w h owes. refl;
      still = refl;
      cause = record { later = omega arith; failed = λ is. absurd cc };
      program = refl;
    }

  pub spent : {c : Composition} {a : A} {v v' : V}
      → Calls table (stands v) (stands v') 0 (request.TakeFor 0) (reply.Refused refusal.Spent)
      → MakesScreenFrame stands tree faults (screen_parts p c v a) (screen_parts p c v' a) (Err Spent)
  spent does = record {
    good = λ k w h. tt;
    err = λ k w h. (
      at_limit w (spent_told w (is_spent w) (not (nat_lt 0 (length w.lasts)))
          (world_after_take_for w 0 0, reply.TakenFor (length w.snapshots) (differ (last_of w 0) (global_map w)))
          (length w.snapshots) (differ (last_of w 0) (global_map w)) refl (does w h.represents).0),
      left_at refusal.Spent does k w h,
    );
    quiet = λ k w h owes. refl;
    still = refl;
    cause = record { later = omega arith; failed = λ is. absurd cc };
    program = refl;
  }

-- After a frame the screen is in some state.
pub still_ready : {V A : Type 0} (stands : V → World BuiltIn → Type 0) (tree : A → Option CursorTree) (faults : A → ℕ)
    (old new : ScreenParts V A) (result : Result Report FrameStop)
    → MakesScreenFrame stands tree faults old new result → IsReadyScreen stands tree old
    → IsReadyScreen stands tree new
still_ready stands tree faults old new (Ok report) made h =
    let shows = made.good h.kept h.world h.is_at in
    record { kept = shows.made.left; world = world_after_frame h.world; is_at = shows.is_at }
still_ready stands tree faults old new (Err TooManyGroups) made h =
    record { kept = h.kept; world = world_after_frame h.world; is_at = (made.err h.kept h.world h.is_at).1 }
still_ready stands tree faults old new (Err ApplierFault) made h = record {
  kept = kept_after_fault h.kept (screen_frame old.program h.kept h.world);
  world = world_after_frame h.world;
  is_at = (made.err h.kept h.world h.is_at).1;
}
still_ready stands tree faults old new (Err Spent) made h =
    record { kept = h.kept; world = h.world; is_at = (made.err h.kept h.world h.is_at).1 }
still_ready stands tree faults old new (Err NoMemory) made h = elim (made.err h.kept h.world h.is_at) [
  | inl at ↦ record { kept = h.kept; world = h.world; is_at = at }
  | inr at ↦ record { kept = h.kept; world = world_after_frame h.world; is_at = at }
]

-- The state of a screen before its first frame.
pub opened : {V A : Type 0} (stands : V → World BuiltIn → Type 0) (tree : A → Option CursorTree) (p : Program)
    (c : Composition) (v : V) (a : A) (states : List State) → IsOpening (stands v) states → c.watcher ≡ 0
    → c.program.now ≡ p → ((l : Option Map) → IsAt c no_last_frame l) → Mirrors (tree a) no_last_frame
    → IsScreenAt stands tree (screen_parts p c v a) no_last_frame (opening_world states)
opened stands tree p c v a states opening watcher program at mirrors = record {
  represents = opening.represents;
  valid = opening.valid;
  watched = omega (arith, ap (λ (ls : List (Option Map)). length ls) opening.lasts);
  watcher = watcher;
  program = program;
  kept = at (last_of (opening_world states) 0);
  mirrors = mirrors;
}
