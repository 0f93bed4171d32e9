-- The parts that begin and end a frame.
use Rattle.std.proofs.Common.{◌≡◌, ◌<◌, inl, inr, ℕ, length, ◌==◌, List, [], ◌∷◌, ◌++◌, true, Option, Some, None, refl, sym, ap, ◌∙◌, subst, append-nil, arith}
use Rattle.std.proofs.lemmas.Bool.Decides.{eqb_tells}
use Rattle.std.specs.Option.{unwrap_or}
use Rattle.rt_values.specs.Maps.{Map, differ, entry_at}
use Rattle.rt_groups.specs.Frames.{LastFrame}
use Rattle.lang_ast.specs.Terms.{Func}
use Rattle.lang_ast.specs.Programs.{functions_of}
use Rattle.recomposer.specs.Compositions.{IsAt}
use Rattle.recomposer.specs.declared.composition.Composition.{Composition}
use Rattle.compose_model.specs.Frame.{FrameResult, frame, kept_after}
use Rattle.snap_policy.specs.declared.policy.BuiltIn.{BuiltIn}
use Rattle.snap_policy.specs.Table.{table}
use Rattle.snap_policy.specs.TableLaws.{table_merge_keeps_type}
use Rattle.snap_api.specs.declared.data.Reply.{Reply}
use Rattle.snap_api.specs.declared.data.Reply.TheVariants as reply
use Rattle.snap_api.specs.declared.data.Request.TheVariants as request
use Rattle.snap_api.specs.declared.data.Entry.{Entry}
use Rattle.snap_api.specs.declared.data.Snapshot.{Snapshot}
use Rattle.snap_api.specs.Desks.{FollowsLast}
use Rattle.snap_api.specs.DeskReads.{LogsReadsIn, AreLegal}
use Rattle.rt_streams.specs.Streams.{AppendsPart}
use Rattle.snap_api.specs.ShownMap.{ShownMap}
use Rattle.snap_api.specs.Valid.{IsValid, MovedOn, View, Last}
use Rattle.snap_api.specs.World.{World, call, snapshot_of, last_of, is_mutable}
use Rattle.snap_api.proofs.LawsCases.{Did, did, refused, took_for}
use Rattle.snap_api.proofs.Takes.{call-TakeFor, took_own}
use Rattle.snap_api.proofs.ValidCalls.{valid_call}
use Rattle.script_lang.specs.Lines.{LineStyle, entry_line, frame_lines, frame_taken}
use Rattle.lang_script.specs.StepCalls.{BeginFrame, EndFrame, of_actor, frame_begun, entry, watcher_number, end_request}
use Rattle.lang_script.specs.NamesInMemory.{Holds}
use Rattle.play_run.specs.RunOutput.{Run, request_lines, run_after_request, part_lines, part_after, parts_lines}
use Rattle.play_run.specs.RunState.{AreKnown, RunFacts, IsRun, IsLogged, AddsEntry, MayAddEntry, LogsFrameReads, StopsAt, flat}
use Rattle.play_run.specs.declared.memory.RunMemory.{RunMemory}
use Rattle.play_run.proofs.RunLogs.{logged_call, logged_end}
use Rattle.play_run.proofs.Stops.{stops_at_call, stops_in_frame}
use Rattle.play_run.proofs.OpenFrames.{same_last, few_after, grown, within}
use Rattle.snap_api.proofs.LawsViews.{equal as itself}

follows_of : (l : Option Map) (m : Map) → MovedOn (unwrap_or l []) m →
    ((x : ℕ) → x < length (unwrap_or l []) → x < length m → (entry_at (unwrap_or l []) x).stamp ≡ (entry_at m x).stamp
    → (entry_at (unwrap_or l []) x).value ≡ (entry_at m x).value) → FollowsLast l m
follows_of None m moved agree = tt
follows_of (Some l) m moved agree = record {
  long = moved.longer;
  stamps = moved.stamps;
  values = λ x within same. agree x within (let long = moved.longer in omega arith) same;
}

-- The global map may come after the watcher's last map.
follows-last : (w : World BuiltIn) → IsValid table w → FollowsLast (last_of w watcher_number) (snapshot_of w 0).view
follows-last w valid = follows_of (last_of w watcher_number) (snapshot_of w 0).view (valid.seen watcher_number)
    (λ x one other same. valid.agree (Last watcher_number) (View 0) x one other same)

-- Equal replies list equal objects.
pub same_changed : (name name' : ℕ) (changed changed' : List ℕ)
    → reply.TakenFor name changed ≡ reply.TakenFor name' changed' → changed ≡ changed'
same_changed name name' changed changed' e = cc

-- What the composition keeps of the reply to a take for the watcher.
pub record Noted (y : Reply) (kept kept' : Composition) : Type 0 where
  pub taken : (name : ℕ) (changed : List ℕ) (k : LastFrame) (l : Option Map) (m : Map) → y ≡ reply.TakenFor name changed
      → IsAt kept k l → FollowsLast l m → changed ≡ differ l m → IsAt kept' k (Some m)
  pub refused : frame_begun y ≡ None → kept' ≡ kept
  pub program : kept'.program ≡ kept.program

-- A take for the watcher that gives no snapshot changes nothing.
refused_take : (w : World BuiltIn) (actor : ℕ) (out : World BuiltIn × Reply)
    → Did table w actor (request.TakeFor watcher_number) out → frame_begun out.1 ≡ None → out.0 ≡ w
refused_take w actor out (refused q e) none = refl
refused_take w actor out (took_for watcher) none = absurd cc

abbrev after_take : World BuiltIn → ℕ → World BuiltIn
after_take w actor = (call table w actor (request.TakeFor watcher_number)).0

abbrev answer : World BuiltIn → ℕ → Reply
answer w actor = (call table w actor (request.TakeFor watcher_number)).1

-- The state after the take, by its reply.
abbrev taken_run : ℕ → Run → Reply → Run
taken_run actor r y = record {
  standing = record {
    world = after_take r.standing.world actor;
    kept = r.standing.kept;
    frames = r.standing.frames ++ frame_taken (request.TakeFor watcher_number) y;
  };
  notes = record r.notes { frame = frame_begun y };
  made = r.made ++ entry r.standing.world actor (request.TakeFor watcher_number) ∷ [];
  first = r.first;
  log = r.log;
}

module _ {functions : List Func} {V : Type 0} {stands : V → World BuiltIn → Type 0} {world world' : V}
    {kept kept' : Composition} (actor : ℕ) (r : Run) where
  -- A refused take is all of its frame.
  not_taken : (y : Reply) → y ≡ answer r.standing.world actor → frame_begun y ≡ None
      → frame_taken (request.TakeFor watcher_number) y ≡ [] →
      RunFacts functions stands world kept actor None r → stands world' (after_take r.standing.world actor)
      → Noted y kept kept' →
      RunFacts functions stands world' kept' actor (frame_begun y) (taken_run actor r y)
  not_taken y is none untaken h stood noted =
      let w = r.standing.world in
      let same = noted.refused none in
      let still : after_take w actor ≡ w =
      refused_take w actor _ (did table w actor (request.TakeFor watcher_number))
      (ap frame_begun (sym is) ∙ none) in
      let facts : RunFacts functions stands world' kept' actor None (record (taken_run actor r y) { standing = record { world = after_take w actor; kept = r.standing.kept; frames = r.standing.frames ++ [] }; notes = record r.notes { frame = None } }) = record {
        world_stands = stood;
        valid = subst (IsValid table) (sym still) h.valid;
        few = few_after w actor (request.TakeFor watcher_number) h.few;
        known = subst (λ v. AreKnown v r.notes.names) (sym still) h.known;
        is_at = subst (λ (v : World BuiltIn). IsAt kept' r.standing.kept (last_of v watcher_number)) (sym still)
            (subst (λ (c : Composition). IsAt c r.standing.kept (last_of w watcher_number)) (sym same) h.is_at);
        same_program = ap (λ p. functions_of p.now) noted.program ∙ h.same_program;
        noted = refl;
        at_frame = append-nil r.standing.frames ∙ h.at_frame;
      } in
      subst (λ (fs : List ℕ). RunFacts functions stands world' kept' actor (frame_begun y)
      (record (taken_run actor r y) {
        standing = record {
          world = after_take w actor;
          kept = r.standing.kept;
          frames = r.standing.frames ++ fs;
        };
        notes = record r.notes { frame = frame_begun y };
      })) (sym untaken)
      (subst (λ (o : Option ℕ). RunFacts functions stands world' kept' actor o
      (record (taken_run actor r y) {
        standing = record {
          world = after_take w actor;
          kept = r.standing.kept;
          frames = r.standing.frames ++ [];
        };
        notes = record r.notes { frame = o };
      })) (sym none) facts)

  taken_facts : (y : Reply) → y ≡ answer r.standing.world actor → RunFacts functions stands world kept actor None r
      → stands world' (after_take r.standing.world actor) → Noted y kept kept' →
      RunFacts functions stands world' kept' actor (frame_begun y) (taken_run actor r y)
  taken_facts (reply.TakenFor name changed) is h stood noted =
      let w = r.standing.world in
      let t = call-TakeFor table w actor watcher_number name changed is in
      let view : (snapshot_of (after_take w actor) name).view ≡ (snapshot_of w 0).view =
      ap (λ (s : Snapshot). s.view) t.shot in
      let last = t.last ∙ ap Some (sym view) in
      let known_name = t.named in
      let more = grown w actor (request.TakeFor watcher_number) in
      let clock = h.few in
      let time = h.valid.in_time in
      record {
        world_stands = stood;
        valid = valid_call h.valid table_merge_keeps_type actor (request.TakeFor watcher_number);
        few = few_after w actor (request.TakeFor watcher_number) h.few;
        known = λ other k found. elim (h.known other k found) [
          | inl lt ↦ inl (omega (arith, lt, more))
          | inr never ↦ inr never
        ];
        is_at = subst (λ o. IsAt kept' r.standing.kept o) (sym t.last)
            (noted.taken name changed r.standing.kept (last_of w watcher_number) (snapshot_of w 0).view refl h.is_at
            (follows-last w h.valid) t.listed);
        same_program = ap (λ p. functions_of p.now) noted.program ∙ h.same_program;
        noted = refl;
        at_frame = record {
          frames = ap (λ l. l ++ name ∷ []) h.at_frame;
          own = took_own t h.valid.shaped;
          fixed = ap (λ (s : Snapshot). is_mutable s.kind) t.shot;
          last = last;
          apart = λ other k found e. elim (h.known other k found) [
            | inl lt ↦ omega (arith, lt, e, known_name)
            | inr never ↦ omega (arith, never, e, known_name, clock, time)
          ];
        };
      }
  taken_facts (reply.Taken n) is h stood noted = not_taken (reply.Taken n) is refl refl h stood noted
  taken_facts (reply.Got v) is h stood noted = not_taken (reply.Got v) is refl refl h stood noted
  taken_facts (reply.Wrote b) is h stood noted = not_taken (reply.Wrote b) is refl refl h stood noted
  taken_facts reply.Applied is h stood noted = not_taken reply.Applied is refl refl h stood noted
  taken_facts reply.Disposed is h stood noted = not_taken reply.Disposed is refl refl h stood noted
  taken_facts (reply.Refused e) is h stood noted = not_taken (reply.Refused e) is refl refl h stood noted

  -- The state after the part that begins a frame.
  pub begun : (y : Reply) → y ≡ answer r.standing.world actor → RunFacts functions stands world kept actor None r
      → stands world' (after_take r.standing.world actor) → Noted y kept kept' →
      RunFacts functions stands world' kept' actor (frame_begun y) (part_after functions r (of_actor actor BeginFrame))
  begun y is h stood noted = subst (λ z. RunFacts functions stands world' kept' actor (frame_begun y)
      (taken_run actor r z)) is (taken_facts y is h stood noted)

pub begin_line : (t : LineStyle) (functions : List Func) (r : Run) (actor : ℕ)
    → part_lines t functions r (of_actor actor BeginFrame)
    ≡ entry_line t.titles (entry r.standing.world actor (request.TakeFor watcher_number)) ∷ []
begin_line t functions r actor = refl

-- The map that the open frame shows.
abbrev pub frame_map : Run → ℕ → Map
frame_map r name = (snapshot_of r.standing.world name).view

abbrev after_dispose : Run → ℕ → ℕ → World BuiltIn
after_dispose r actor name = (call table r.standing.world actor (request.Dispose name)).0

abbrev pub outcome : List Func → Run → ℕ → Option FrameResult
outcome functions r name = frame functions r.standing.kept (frame_map r name)

-- The state after the frame.
abbrev ended : List Func → Run → ℕ → ℕ → Run
ended functions r actor name = record {
  standing = record {
    world = after_dispose r actor name;
    kept = kept_after r.standing.kept (outcome functions r name);
    frames = [];
  };
  notes = record r.notes { frame = None };
  made = r.made ++ entry r.standing.world actor (request.Dispose name) ∷ [];
  first = r.first;
  log = r.log;
}

module _ {functions : List Func} {V : Type 0} {stands : V → World BuiltIn → Type 0} {world : V} {kept : Composition}
    (actor name : ℕ) (r : Run) (h : RunFacts functions stands world kept actor (Some name) r) where
  pub frame_shows : ShownMap table (stands world) actor (Some name) (frame_map r name)
  frame_shows = record {
    world = r.standing.world;
    stands_for = h.world_stands;
    valid = h.valid;
    opens = (h.at_frame.own.live, h.at_frame.own.own);
    shows = refl;
    full = (h.valid.shaped.full name (within r.standing.world actor name h.valid h.few h.at_frame.own).0).1;
  }

  pub frame_at : IsAt kept r.standing.kept (Some (frame_map r name))
  frame_at = subst (λ o. IsAt kept r.standing.kept o) h.at_frame.last h.is_at

  -- The frame of the composition's program.
  pub frame_is : frame (functions_of kept.program.now) r.standing.kept (frame_map r name) ≡ outcome functions r name
  frame_is = ap (λ fs. frame fs r.standing.kept (frame_map r name)) h.same_program

  asks : end_request r.notes.frame ≡ Some (request.Dispose name)
  asks = ap end_request h.noted

  pub end_lines : (t : LineStyle)
      → part_lines t functions r (of_actor actor EndFrame)
      ≡ entry_line t.titles (entry r.standing.world actor (request.Dispose name)) ∷ frame_lines t.flags r.standing.kept
      (outcome functions r name)
  end_lines t = ap (request_lines t functions r actor) asks ∙ rw h.at_frame.frames (rw (itself name) refl)

  end_after : part_after functions r (of_actor actor EndFrame) ≡ ended functions r actor name
  end_after =
      ap (run_after_request functions r (of_actor actor EndFrame)) asks ∙ rw h.at_frame.frames (rw (itself name) refl)

  pub end_facts : {world' : V} {kept' : Composition} → stands world' (after_dispose r actor name)
      → IsAt kept' (kept_after r.standing.kept
      (frame (functions_of kept.program.now) r.standing.kept (frame_map r name))) (Some (frame_map r name))
      → kept'.program ≡ kept.program →
      RunFacts functions stands world' kept' actor None (part_after functions r (of_actor actor EndFrame))
  end_facts {world'} {kept'} stood at program =
      let w = r.standing.world in
      let more = grown w actor (request.Dispose name) in
      let k = kept_after r.standing.kept (outcome functions r name) in
      let facts : RunFacts functions stands world' kept' actor None (ended functions r actor name) = record {
        world_stands = stood;
        valid = valid_call h.valid table_merge_keeps_type actor (request.Dispose name);
        few = few_after w actor (request.Dispose name) h.few;
        known = λ other n found. elim (h.known other n found) [
          | inl lt ↦ inl (omega (arith, lt, more))
          | inr never ↦ inr never
        ];
        is_at = subst (λ o. IsAt kept' k o)
            (sym (same_last w actor (request.Dispose name) watcher_number tt ∙ h.at_frame.last))
            (subst (λ (o : Option FrameResult). IsAt kept' (kept_after r.standing.kept o) (Some (frame_map r name)))
            frame_is at);
        same_program = ap (λ p. functions_of p.now) program ∙ h.same_program;
        noted = refl;
        at_frame = refl;
      } in
      subst (RunFacts functions stands world' kept' actor None) (sym end_after) facts

  -- The log after the end of a frame.
  pub end_logged : (now mid now' : Option (List Entry)) → IsLogged functions r r.log now
      → LogsFrameReads functions (stands world) actor name r.standing.kept (frame_map r name) now mid
      → AddsEntry mid now' (entry r.standing.world actor (request.Dispose name)) →
      IsLogged functions (part_after functions r (of_actor actor EndFrame))
      (part_after functions r (of_actor actor EndFrame)).log now'
  end_logged now mid now' logged reads adds =
      subst (λ o. IsLogged functions (run_after_request functions r (of_actor actor EndFrame) o)
      (run_after_request functions r (of_actor actor EndFrame) o).log now') (sym asks)
      (logged_end functions r (of_actor actor EndFrame) name (stands world) h.world_stands h.at_frame.frames r.log now
      mid now' logged reads adds)

  -- The run of the part that ends a frame stopped.
  pub end_stops : (t : LineStyle) (xs : List ℕ) (now mid now' : Option (List Entry))
      (written written' : Option (List ℕ)) {bytes : List ℕ} → IsLogged functions r r.log now
      → LogsReadsIn now mid actor (Some name) xs → AreLegal table (stands world) now mid →
      MayAddEntry mid now' (entry r.standing.world actor (request.Dispose name)) → AppendsPart written written' bytes
      → StopsAt t functions (of_actor actor EndFrame ∷ []) now' written written' r
  end_stops t xs now mid now' written written' {bytes} logged reads legal may part =
      stops_in_frame functions r (of_actor actor EndFrame) name (stands world) h.world_stands h.at_frame.frames t xs now mid
      now' written written' bytes (ap (run_after_request functions r (of_actor actor EndFrame)) asks) logged reads
      legal may part

  -- The end of a frame keeps the names.
  pub end_names : (part_after functions r (of_actor actor EndFrame)).notes.names ≡ r.notes.names
  end_names = ap (λ o. (run_after_request functions r (of_actor actor EndFrame) o).notes.names) asks

  -- The lines of the end of a frame, as bytes.
  pub end_bytes : (t : LineStyle)
      → flat (parts_lines t functions r (of_actor actor EndFrame ∷ []))
      ≡ entry_line t.titles (entry r.standing.world actor (request.Dispose name))
      ++ flat (frame_lines t.flags r.standing.kept (outcome functions r name))
  end_bytes t = ap flat (append-nil (part_lines t functions r (of_actor actor EndFrame)) ∙ end_lines t)

-- The run of the part that begins a frame stopped.
pub begin_stops : (t : LineStyle) (functions : List Func) (actor : ℕ) (r : Run) (now now' : Option (List Entry))
    (written written' : Option (List ℕ)) {bytes : List ℕ} → IsLogged functions r r.log now →
    MayAddEntry now now' (entry r.standing.world actor (request.TakeFor watcher_number))
    → AppendsPart written written' bytes
    → StopsAt t functions (of_actor actor BeginFrame ∷ []) now' written written' r
begin_stops t functions actor r now now' written written' {bytes} logged may part =
    stops_at_call t functions r (of_actor actor BeginFrame)
    (entry r.standing.world actor (request.TakeFor watcher_number)) now now' written written' bytes logged
    (λ adds. logged_call functions r (of_actor actor BeginFrame) (request.TakeFor watcher_number) r.log now now' refl
    refl logged adds) may part

-- The state after the part that begins a frame, with the table of names.
pub begun_run : {functions : List Func} {V : Type 0} {stands : V → World BuiltIn → Type 0}
    {log : V → Option (List Entry)} {world world' : V} {memory : RunMemory} (memory' : RunMemory) (actor : ℕ) (r : Run)
    (y : Reply) (x : Option ℕ) → y ≡ answer r.standing.world actor →
    x ≡ frame_begun y → Noted y memory.composition memory'.composition
    → IsRun functions stands log world memory actor None r → stands world' (after_take r.standing.world actor)
    → AddsEntry (log world) (log world') (entry r.standing.world actor (request.TakeFor watcher_number))
    → memory'.names ≡ memory.names →
    IsRun functions stands log world' memory' actor x (part_after functions r (of_actor actor BeginFrame))
begun_run {functions = functions} {stands = stands} {log = log} {world = world} {world' = world'} memory' actor r y x is begins noted h stood adds names =
    subst (λ o. IsRun functions stands log world' memory' actor o (part_after functions r (of_actor actor BeginFrame)))
    (sym begins)
    (record {
      facts = begun actor r y is h.facts stood noted;
      named = subst (λ m. Holds m r.notes.names) (sym names) h.named;
      logged = logged_call functions r (of_actor actor BeginFrame) (request.TakeFor watcher_number) r.log (log world)
          (log world') refl refl h.logged adds;
    })
