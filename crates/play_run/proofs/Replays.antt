-- The calls of a history, one after the other: what each leaves, and what was written.
use Rattle.std.proofs.Common.{◌≡◌, inl, inr, ℕ, zero, ◌==◌, ◌&&◌, List, [], ◌∷◌, ◌++◌, ◌||◌, Bool, true, false, not, cond, nat_lt, length, refl, sym, ap, ◌∙◌, subst, Option, Some, None, Ok, Err, append_assoc, append-nil, arith, ◌≤◌}
use Rattle.std.proofs.lemmas.Grind.{flat_map-append}
use Rattle.std.proofs.lemmas.Bool.{eqb-true}
use Rattle.std.proofs.lemmas.Bool.Decides.{nat_tests}
use Rattle.std.proofs.lemmas.List.{get_or_past}
use Rattle.std.specs.Prelude.{slice_index_or}
use Rattle.std.specs.Option.{is_some, option_map, unwrap_or}
use Rattle.std.specs.declared.result.Result.{Result}
use Rattle.std.specs.Io.KnownBytes.{Appends}
use Rattle.std.proofs.KnownBytes.{Appends-trans}
use Rattle.rt_streams.specs.Streams.{AppendsPart}
use Rattle.rt_streams.proofs.Parts.{part-front}
use Rattle.lang_ast.specs.declared.program.State.{State}
use Rattle.lang_ast.specs.Terms.{Func}
use Rattle.rt_values.specs.Maps.{Map, no_entry, value_at}
use Rattle.rt_values.specs.declared.maps.StampedValue.{StampedValue}
use Rattle.rt_values.specs.declared.value.Value.{Value}
use Rattle.rt_groups.specs.Frames.{no_last_frame}
use Rattle.compose_model.specs.Frame.{FrameResult, frame, kept_after}
use Rattle.snap_policy.specs.declared.policy.BuiltIn.{BuiltIn}
use Rattle.snap_policy.specs.Table.{table}
use Rattle.snap_policy.specs.TableLaws.{table_merge_keeps_type}
use Rattle.snap_api.proofs.ReadLemmas.{call-read}
use Rattle.snap_api.proofs.ValidCalls.{valid_call}
use Rattle.snap_api.specs.World.{World, History, IsLegal, start, call, last_of, is_mutable, is_closed, is_foreign, snapshot_of, refusal_or_effect}
use Rattle.snap_api.specs.declared.data.Entry.{Entry}
use Rattle.snap_api.specs.declared.data.Refusal.TheVariants as refusal
use Rattle.snap_api.specs.declared.data.Reply.{Reply}
use Rattle.snap_api.specs.declared.data.Reply.TheVariants as reply
use Rattle.snap_api.specs.declared.data.Request.{Request}
use Rattle.snap_api.specs.declared.data.Request.TheVariants as request
use Rattle.snap_api.specs.declared.data.Snapshot.{Snapshot}
use Rattle.lang_script.specs.StepCalls.{entry, frame_begun, opening_world, watcher_number}
use Rattle.script_lang.specs.Lines.{LineStyle, Standing, entry_line, ends_frame, frame_lines, frame_taken, lines, lines_at, next, initial_standing}
use Rattle.script_lang.specs.PrintedCalls.{reads_frame}
use Rattle.lang_ast.specs.Programs.{functions_of}
use Rattle.recomposer.specs.Compositions.{IsAt}
use Rattle.recomposer.specs.declared.composition.Composition.{Composition}
use Rattle.play_laws.specs.FramesInTurn.{OpenFrame, AreInTurn, frame_opened}
use Rattle.play_laws.specs.PrintedHistory.{no_frames, printed_from, printed_history}
use Rattle.play_run.specs.Opening.{StatesFit}
use Rattle.play_run.specs.RecordedReads.{AgreesWith}
use Rattle.play_run.specs.CallsInFrames.{frame_by, name_of, caller_of, frames_by, is_frame_read, object_asked, value_given, frame_after, IsInTurn, call_lines, standing_then}
use Rattle.play_run.specs.ReplayState.{frame_of, run_from, no_world, IsAnswered, IsRecorded, IsReplay, PlaysCall}
use Rattle.play_run.specs.RunOutput.{Run}
use Rattle.play_run.specs.RunState.{IsAtFrame, RunFacts, flat}
use Rattle.play_run.specs.RunPromise.{WritesBytes}
use Rattle.play_run.specs.declared.recorded.RecordedReads.{RecordedReads}
use Rattle.play_run.specs.declared.replaying.ReplayFrame.{ReplayFrame}
use Rattle.play_run.specs.declared.replaying.ReplayMemory.{ReplayMemory}
use Rattle.play_run.specs.declared.write_lines.Stop.{Stop}
use Rattle.play_run.proofs.CallLines.{nothing_said}
use Rattle.play_run.proofs.OpenFrames.{Avoids, few_after, same_snapshot, no_frame_begun, same_watchers, for_watcher, own_after, within}
use Rattle.play_run.proofs.FrameParts.{Noted, begun, frame_map, outcome, frame_at, frame_is, end_facts}
use Rattle.play_run.proofs.FrameParts as parts
use Rattle.play_run.proofs.PrintedCalls.{Turn, itself, dispose_name, reads_none, read_stays, asked_is_read, printed_same, FirstCall, first_call}
use Rattle.play_run.proofs.RunLogs.{next_world}
use Rattle.play_run.proofs.Openings.{lasts-states, opened_facts}
use Rattle.play_run.proofs.Sequences.{facts_as}
use Rattle.play_run.proofs.Written.{part_next, says_behind, appends_none}
use Rattle.play_run.proofs.RunParts.{ends_none}

-- A call that does not end the open frame does not dispose its snapshot.
avoided : (name : ℕ) (q : Request) → ends_frame (name ∷ []) q ≡ false → Avoids name q
avoided name (request.Take parent kind) unended = tt
avoided name (request.TakeFor watcher) unended = tt
avoided name (request.Read n x) unended = tt
avoided name (request.Write n x v) unended = tt
avoided name (request.Apply n) unended = tt
avoided name (request.Dispose n) unended = λ e. (let two : true
    ≡ false = sym (ap (λ k. (name == k) || false) e ∙ ap (λ b. b || false) (itself name)) ∙ unended in absurd cc)

same_lasts : (w v : World BuiltIn) → v.lasts ≡ w.lasts → last_of v watcher_number ≡ last_of w watcher_number
same_lasts w v same = ap (λ ls. slice_index_or ls watcher_number None) same

-- The frame that a take for the watcher begins, by its reply.
begun_as : (caller : ℕ) (y : Reply)
    → frame_opened caller (frame_taken (request.TakeFor watcher_number) y)
    ≡ option_map (frame_by caller) (frame_begun y)
begun_as caller (reply.TakenFor name changed) = refl
begun_as caller (reply.Taken n) = refl
begun_as caller (reply.Got v) = refl
begun_as caller (reply.Wrote b) = refl
begun_as caller reply.Applied = refl
begun_as caller reply.Disposed = refl
begun_as caller (reply.Refused e) = refl

-- The open frame does not depend on the names that a run has given, or on its calls so far.
at_frame_from : (actor : ℕ) (r : Run) (frame : Option ℕ) → IsAtFrame actor frame r
    → IsAtFrame actor frame (run_from r.standing frame)
at_frame_from actor r None at = at
at_frame_from actor r (Some name) at =
    record { frames = at.frames; own = at.own; fixed = at.fixed; last = at.last; apart = λ other n found. absurd cc }

-- The facts of a run do not depend on the names that it has given, or on its calls so far.
from_now : {functions : List Func} {kept : Composition} {actor : ℕ} {frame : Option ℕ} {r : Run}
    → RunFacts functions no_world tt kept actor frame r
    → RunFacts functions no_world tt kept actor frame (run_from r.standing frame)
from_now {actor = actor} {frame = frame} {r = r} h = record {
  world_stands = tt;
  valid = h.valid;
  few = h.few;
  known = λ other n found. absurd cc;
  is_at = h.is_at;
  same_program = h.same_program;
  noted = refl;
  at_frame = at_frame_from actor r frame h.at_frame;
}

-- Reads of a frame.

agrees_more : (m : Map) (reads : List (ℕ × Value)) (r : ℕ × Value) → AgreesWith m reads → r.1 ≡ value_at m r.0
    → AgreesWith m (reads ++ r ∷ [])
agrees_more m [] r agree is = (is, tt)
agrees_more m (y ∷ ys) r agree is = (agree.0, agrees_more m ys r agree.1 is)

-- The open frame, and the call that reads in its snapshot.
pub asked_of : (f : OpenFrame) (caller x : ℕ) (q : Request) → object_asked f caller q ≡ Some x
    → (caller ≡ f.caller) × (q ≡ request.Read f.name x)
asked_of f caller x (request.Take parent kind) is = absurd cc
asked_of f caller x (request.TakeFor watcher) is = absurd cc
asked_of f caller x (request.Write n y v) is = absurd cc
asked_of f caller x (request.Apply n) is = absurd cc
asked_of f caller x (request.Dispose n) is = absurd cc
asked_of f caller x (request.Read n y) is = by (f.caller == caller) refl (f.name == n) refl is
  where
    by : (a : Bool) → (f.caller == caller) ≡ a → (b : Bool) → (f.name == n) ≡ b → cond (a && b) (Some y) None ≡ Some x
        → (caller ≡ f.caller) × (request.Read n y ≡ request.Read f.name x)
    by true own true here e = (
      sym (eqb-true f.caller caller own),
      ap (λ k. request.Read k y) (sym (eqb-true f.name n here))
          ∙ ap (λ z. request.Read f.name z) (ap (λ o. unwrap_or o 0) e),
    )
    by true own false here e = absurd cc
    by false own b here e = absurd cc

module _ (w : World BuiltIn) (caller name x : ℕ) where
  -- A read gives the value of the view, also if there is no such object.
  value_by : (b : Bool) → nat_lt x (length w.objects) ≡ b → length (snapshot_of w name).view ≡ length w.objects →
      value_given (cond {A = World BuiltIn × Reply} (not b) (w, reply.Refused refusal.UnknownObject)
      (w, reply.Got (value_at (snapshot_of w name).view x))).1 ≡ value_at (snapshot_of w name).view x
  value_by true known full = refl
  value_by false unknown full =
      let far : length w.objects ≤ x = grind (arith, nat_tests) in
      ap (λ (e : StampedValue). e.value)
      (sym (get_or_past (snapshot_of w name).view x no_entry (omega (arith, far, full))))

  read_gives : is_closed w name ≡ false → is_foreign w caller name ≡ false
      → length (snapshot_of w name).view ≡ length w.objects →
      value_given (call table w caller (request.Read name x)).1 ≡ value_at (snapshot_of w name).view x
  read_gives live own full =
      ap (λ b. value_given (refusal_or_effect w
      ((b, refusal.Closed name) ∷ (
        is_foreign w caller name,
        refusal.NotYours (snapshot_of w name).owner,
      ) ∷ (
        not (nat_lt x (length w.objects)),
        refusal.UnknownObject,
      ) ∷ []) (w, reply.Got (value_at (snapshot_of w name).view x))).1) live
      ∙ ap (λ b. value_given (refusal_or_effect w
      ((b, refusal.NotYours (snapshot_of w name).owner) ∷ (
        not (nat_lt x (length w.objects)),
        refusal.UnknownObject,
      ) ∷ []) (w, reply.Got (value_at (snapshot_of w name).view x))).1) own
      ∙ value_by (nat_lt x (length w.objects)) refl full

-- If nothing was recorded, the reads are those of any frame so far.
none_recorded : (o : Option OpenFrame) (last : Option Map) (reads : RecordedReads) → reads.given ≡ zero
    → reads.reads.items ≡ [] → IsRecorded o last reads
none_recorded None last reads new none = record { new = new; of_frame = none }
none_recorded (Some f) last reads new none = record { new = new; of_frame = λ m is. subst (AgreesWith m) (sym none) tt }

-- A call of a legal history has the plain world's reply.
legal_entry : (w : World BuiltIn) (e : Entry) → IsAnswered w e → entry w e.caller e.request ≡ e
legal_entry w e is = ap (λ (y : Reply). record { caller = e.caller; request = e.request; reply = y }) is

module _ (functions : List Func) (s : Standing) (e : Entry) where
  abbrev after_call : World BuiltIn
  after_call = (call table s.world e.caller e.request).0

  -- The state after a call that ends no frame and begins none.
  abbrev quiet : Standing
  quiet = record { world = after_call; kept = s.kept; frames = s.frames }

  quiet_next : ends_frame s.frames e.request ≡ false → frame_taken e.request e.reply ≡ [] → next functions s e ≡ quiet
  quiet_next unended untaken = rw unended
      (ap (λ (fs : List ℕ). record { world = after_call; kept = s.kept; frames = fs })
      (ap (λ l. s.frames ++ l) untaken ∙ append-nil s.frames))

  -- The lines of a printed call that ends no frame, and what it leaves.
  printed_line : (style : LineStyle) (o : Option OpenFrame) → is_frame_read o e ≡ false
      → ends_frame s.frames e.request ≡ false → flat (call_lines style functions o s e) ≡ entry_line style.titles e
  printed_line style o printed unended =
      ap (λ b. flat (cond b [] (lines_at style functions s e))) printed
      ∙ rw unended (append-nil (entry_line style.titles e))

  printed_next : (o : Option OpenFrame) → is_frame_read o e ≡ false → standing_then functions o s e ≡ next functions s e
  printed_next o printed = ap (λ b. cond b s (next functions s e)) printed

  -- The world after a call. A read of a frame changes no world.
  pub read_leaves : (frames : List ℕ) (q : Request) → reads_frame frames q ≡ true
      → (call table s.world e.caller q).0 ≡ s.world
  read_leaves frames (request.Read n x) reads = call-read table s.world e.caller n x
  read_leaves frames (request.Take parent kind) reads = absurd cc
  read_leaves frames (request.TakeFor watcher) reads = absurd cc
  read_leaves frames (request.Write n x v) reads = absurd cc
  read_leaves frames (request.Apply n) reads = absurd cc
  read_leaves frames (request.Dispose n) reads = absurd cc

  then_world : (o : Option OpenFrame) → (standing_then functions o s e).world ≡ after_call
  then_world o = by (is_frame_read o e) refl
    where
      by : (b : Bool) → is_frame_read o e ≡ b → (cond b s (next functions s e)).world ≡ after_call
      by true reads = sym (read_leaves (frames_by o e.caller) e.request reads)
      by false printed = next_world functions s e

-- While no frame is open, each call is printed.
pub printed_outside : (e : Entry) → is_frame_read None e ≡ false
printed_outside e = reads_none e.request

-- A call that asks for an object of the open frame is a read of the frame.
pub is_read : (f : OpenFrame) (e : Entry) (x : ℕ) → object_asked f e.caller e.request ≡ Some x
    → is_frame_read (Some f) e ≡ true
is_read f e x asks = sym (asked_is_read f e.caller e.request) ∙ ap is_some asks

module _ {functions : List Func} (s : Standing) (e : Entry) where
  -- The line of a printed call was not written whole.
  pub plays_stopped : {T : Type 0} {memory' : ReplayMemory} (style : LineStyle) (o : Option OpenFrame) (stop : Stop)
      (written written' : Option (List ℕ)) → is_frame_read o e ≡ false →
      WritesBytes {T = T} written written' (entry_line style.titles e) (Err stop)
      → PlaysCall style functions memory' written written' o s e (Err stop)
  plays_stopped style o stop written written' printed says =
      let part : AppendsPart written written' (flat (lines_at style functions s e)) =
      part-front written written' (entry_line style.titles e) _ says.part in
      record {
        says = record {
          all = tt;
          part = subst (AppendsPart written written')
              (sym (ap (λ b. flat (cond b [] (lines_at style functions s e))) printed)) part;
        };
        left = tt;
      }

  -- A call of no memory.
  pub plays_nothing : {memory' : ReplayMemory} (style : LineStyle) (o : Option OpenFrame) (stop : Stop)
      (written : Option (List ℕ)) → PlaysCall style functions memory' written written o s e (Err stop)
  plays_nothing style o stop written = record { says = nothing_said stop written _; left = tt }

module _ {functions : List Func} {memory : ReplayMemory} (s : Standing) (e : Entry) where
  -- A call that ends no frame and begins none leaves the open frame as it is.
  frame_stays : (o : Option OpenFrame) → IsReplay functions memory o s → ends_frame s.frames e.request ≡ false
      → (after_call functions s e).lasts ≡ s.world.lasts
      → IsAtFrame (caller_of o) (name_of o) (run_from (quiet functions s e) (name_of o))
  frame_stays None h unended lasts = h.facts.at_frame
  frame_stays (Some f) h unended lasts =
      let at = h.facts.at_frame in
      let w = s.world in
      let there = within w f.caller f.name h.facts.valid h.facts.few at.own in
      let same = same_snapshot w e.caller e.request h.facts.valid f.name there.0 at.fixed
      (avoided f.name e.request (ap (λ fs. ends_frame fs e.request) (sym at.frames) ∙ unended)) in
      record {
        frames = at.frames;
        own = own_after w (after_call functions s e) f.caller f.name same at.own;
        fixed = ap (λ (o : Snapshot). is_mutable o.kind) same ∙ at.fixed;
        last = same_lasts w (after_call functions s e) lasts ∙ at.last ∙ ap (λ (o : Snapshot). Some o.view) (sym same);
        apart = λ other n found. absurd cc;
      }

  quiet_facts : {memory' : ReplayMemory} (o : Option OpenFrame) → IsReplay functions memory o s
      → ends_frame s.frames e.request ≡ false → (after_call functions s e).lasts ≡ s.world.lasts →
      memory'.composition ≡ memory.composition → memory'.reads ≡ memory.reads
      → IsReplay functions memory' o (quiet functions s e)
  quiet_facts {memory' = memory'} o h unended lasts kept reads =
      let last = same_lasts s.world (after_call functions s e) lasts in
      record {
        facts = record {
          world_stands = tt;
          valid = valid_call h.facts.valid table_merge_keeps_type e.caller e.request;
          few = few_after s.world e.caller e.request h.facts.few;
          known = λ other n found. absurd cc;
          is_at =
              subst (λ (c : Composition). IsAt c s.kept (last_of (after_call functions s e) watcher_number)) (sym kept)
              (subst (λ l. IsAt memory.composition s.kept l) (sym last) h.facts.is_at);
          same_program = ap (λ (c : Composition). functions_of c.program.now) kept ∙ h.facts.same_program;
          noted = refl;
          at_frame = frame_stays o h unended lasts;
        };
        recorded = subst (λ r. IsRecorded o (last_of (after_call functions s e) watcher_number) r) (sym reads)
            (subst (λ l. IsRecorded o l memory.reads) (sym last) h.recorded);
        watchers = ap length lasts ∙ h.watchers;
      }

  -- The open frame stays open.
  quiet_frame : (o : Option OpenFrame) → IsReplay functions memory o s → ends_frame s.frames e.request ≡ false
      → frame_taken e.request e.reply ≡ [] → frame_after o e ≡ o
  quiet_frame None h unended untaken = ap (frame_opened e.caller) untaken
  quiet_frame (Some f) h unended untaken =
      ap (λ b. cond b None (Some f)) (ap (λ fs. ends_frame fs e.request) (sym h.facts.at_frame.frames) ∙ unended)

  -- A printed call that neither ends nor begins a frame: its line was written.
  pub plays_quiet : {memory' : ReplayMemory} (style : LineStyle) (now : Option ReplayFrame)
      (written written' : Option (List ℕ)) → IsAnswered s.world e → IsReplay functions memory (frame_of now) s →
      is_frame_read (frame_of now) e ≡ false → ends_frame s.frames e.request ≡ false
      → frame_taken e.request e.reply ≡ [] → memory'.composition ≡ memory.composition
      → memory'.reads ≡ memory.reads →
      Appends written written' (entry_line style.titles e)
      → PlaysCall style functions memory' written written' (frame_of now) s e (Ok now)
  plays_quiet {memory' = memory'} style now written written' legal h printed unended untaken kept reads wrote =
      let o = frame_of now in
      let lasts = (no_frame_begun s.world e.caller e.request (ap (frame_taken e.request) legal ∙ untaken)).0 in
      record {
        says = record {
          all = subst (Appends written written')
              (sym (printed_line functions s e style o printed unended)) wrote;
          part = tt;
        };
        left = (
          sym (quiet_frame o h unended untaken),
          subst (IsReplay functions memory' o)
              (sym (printed_next functions s e o printed ∙ quiet_next functions s e unended untaken))
              (quiet_facts o h unended lasts kept reads),
        );
      }

  -- A read of the open frame was recorded.
  module _ (f : OpenFrame) (x : ℕ) (asks : object_asked f e.caller e.request ≡ Some x) where
    value_read : IsAnswered s.world e → IsReplay functions memory (Some f) s
        → value_given e.reply ≡ value_at (snapshot_of s.world f.name).view x
    value_read legal h =
        let at = h.facts.at_frame in
        let who = asked_of f e.caller x e.request asks in
        let full = (h.facts.valid.shaped.full f.name
        (within s.world f.caller f.name h.facts.valid h.facts.few at.own).0).1 in
        ap value_given (sym legal) ∙ ap (λ c. value_given (call table s.world c e.request).1) who.0
        ∙ ap (λ q. value_given (call table s.world f.caller q).1) who.1
        ∙ read_gives s.world f.caller f.name x at.own.live at.own.own full

    recorded_more : {memory' : ReplayMemory} → IsAnswered s.world e → IsReplay functions memory (Some f) s
        → memory'.composition ≡ memory.composition →
        memory'.reads.given ≡ memory.reads.given
        → memory'.reads.reads.items ≡ memory.reads.reads.items ++ (x, value_given e.reply) ∷ []
        → IsReplay functions memory' (Some f) s
    recorded_more {memory' = memory'} legal h kept given grew = record {
      facts = subst (λ (c : Composition). RunFacts functions no_world tt c f.caller (Some f.name)
          (run_from s (Some f.name))) (sym kept) h.facts;
      recorded = record {
        new = given ∙ h.recorded.new;
        of_frame = λ m is. subst (AgreesWith m) (sym grew)
            (agrees_more m memory.reads.reads.items (x, value_given e.reply) (h.recorded.of_frame m is)
            (value_read legal h ∙ ap (λ (o : Option Map). value_at (unwrap_or o []) x)
            (sym h.facts.at_frame.last ∙ is)));
      };
      watchers = h.watchers;
    }

    pub plays_read : {memory' : ReplayMemory} (style : LineStyle) (now : Option ReplayFrame) (written : Option (List ℕ))
        → frame_of now ≡ Some f → IsAnswered s.world e → IsReplay functions memory (Some f) s →
        memory'.composition ≡ memory.composition → memory'.reads.given ≡ memory.reads.given
        → memory'.reads.reads.items ≡ memory.reads.reads.items ++ (x, value_given e.reply) ∷ [] →
        PlaysCall style functions memory' written written (Some f) s e (Ok now)
    plays_read {memory' = memory'} style now written same legal h kept given grew = record {
      says = record {
        all = subst (Appends written written)
            (sym (ap (λ b. flat (cond b [] (lines_at style functions s e))) (is_read f e x asks)))
            (appends_none written);
        part = tt;
      };
      left = (
        same ∙ sym (read_stays (Some f) e (is_read f e x asks)).1,
        subst (λ o. IsReplay functions memory' o (standing_then functions (Some f) s e)) (sym same)
            (subst (IsReplay functions memory' (Some f))
            (sym (ap (λ b. cond b s (next functions s e)) (is_read f e x asks)))
            (recorded_more legal h kept given grew)),
      );
    }

-- While no frame is open, a call ends none.
pub unended : {functions : List Func} {memory : ReplayMemory} {s : Standing} → IsReplay functions memory None s
    → (q : Request) → ends_frame s.frames q ≡ false
unended h q = ap (λ fs. ends_frame fs q) h.facts.at_frame ∙ ends_none q

-- The facts with the frame that a take for the watcher begins, by its reply.
begun_facts : {functions : List Func} {kept : Composition} (caller : ℕ) (s : Standing) (y : Reply)
    → RunFacts functions no_world tt kept caller (frame_begun y) (run_from s (frame_begun y)) →
    (let o = frame_opened caller (frame_taken (request.TakeFor watcher_number) y) in
    RunFacts functions no_world tt kept (caller_of o) (name_of o) (run_from s (name_of o)))
begun_facts caller s (reply.TakenFor name changed) h = h
begun_facts caller s (reply.Taken n) h = facts_as caller 0 h
begun_facts caller s (reply.Got v) h = facts_as caller 0 h
begun_facts caller s (reply.Wrote b) h = facts_as caller 0 h
begun_facts caller s reply.Applied h = facts_as caller 0 h
begun_facts caller s reply.Disposed h = facts_as caller 0 h
begun_facts caller s (reply.Refused e) h = facts_as caller 0 h

module _ {functions : List Func} {memory : ReplayMemory} (memory' : ReplayMemory) (style : LineStyle) (s : Standing)
    (h : IsReplay functions memory None s) (written written' : Option (List ℕ)) (reads : memory'.reads ≡ memory.reads)
    (now : Option ReplayFrame) (name : Option ℕ) where
  -- What the call of an entry leaves, while no frame is open.
  abbrev Outside : Entry → Type 0
  Outside e = name ≡ frame_begun e.reply → frame_of now ≡ option_map (frame_by e.caller) name
      → Noted e.reply memory.composition memory'.composition → Appends written written' (entry_line style.titles e) →
      PlaysCall style functions memory' written written' None s e (Ok now)

  -- The take for the watcher.
  plays_take : (caller : ℕ) → Outside (entry s.world caller (request.TakeFor watcher_number))
  plays_take caller named is noted wrote =
      let q = request.TakeFor watcher_number in
      let e = entry s.world caller q in
      let y = (call table s.world caller q).1 in
      let facts = begun_facts caller (next functions s e) y
      (from_now (begun caller (run_from s None) y refl (facts_as 0 caller h.facts) tt noted)) in
      let begins : frame_of now ≡ frame_opened caller (frame_taken q y) = is ∙ ap (option_map (frame_by caller)) named
      ∙ sym (begun_as caller y) in
      record {
        says = record {
          all = subst (Appends written written') (sym (append-nil (entry_line style.titles e))) wrote;
          part = tt;
        };
        left = (
          begins,
          subst (λ o. IsReplay functions memory' o (next functions s e)) (sym begins) (record {
            facts = facts;
            recorded = subst (IsRecorded (frame_opened caller (frame_taken q y))
                (last_of (next functions s e).world watcher_number)) (sym reads)
                (none_recorded (frame_opened caller (frame_taken q y))
                (last_of (next functions s e).world watcher_number) memory.reads h.recorded.new
                h.recorded.of_frame);
            watchers = same_watchers s.world caller q ∙ h.watchers;
          }),
        );
      }

  -- A call that begins no frame.
  plays_other : (e : Entry) → IsAnswered s.world e
      → frame_taken e.request (call table s.world e.caller e.request).1 ≡ [] → Outside e
  plays_other e legal untaken named is noted wrote =
      let none = ap frame_begun (sym legal) ∙ (no_frame_begun s.world e.caller e.request untaken).1 in
      let closed : frame_of now ≡ None = is ∙ ap (option_map (frame_by e.caller)) (named ∙ none) in
      subst (λ o. PlaysCall style functions memory' written written' o s e (Ok now)) closed
      (plays_quiet s e style now written written' legal (subst (λ o. IsReplay functions memory o s) (sym closed) h)
      (ap (λ o. is_frame_read o e) closed ∙ printed_outside e) (unended h e.request)
      (ap (frame_taken e.request) (sym legal) ∙ untaken) (noted.refused none) reads wrote)

  -- The line of a call was written while no frame was open.
  pub plays_outside : (e : Entry) → IsAnswered s.world e → Outside e
  plays_outside e legal = elim (for_watcher s.world e.caller e.request h.watchers) [
    | inl untaken ↦ plays_other e legal untaken
    | inr takes ↦ subst (λ (x : Entry). Outside x)
        (ap (λ q. entry s.world e.caller q) (sym takes) ∙ legal_entry s.world e legal) (plays_take e.caller)
  ]

-- A call that asks for no object of the open frame is printed.
pub printed_unless : (f : OpenFrame) (e : Entry) → object_asked f e.caller e.request ≡ None
    → is_frame_read (Some f) e ≡ false
printed_unless f e none = sym (asked_is_read f e.caller e.request) ∙ ap is_some none

-- While the frame stays open, a call neither ends nor begins a frame.
pub stays_open : {functions : List Func} {memory : ReplayMemory} (f : OpenFrame) (s : Standing) (e : Entry)
    → IsReplay functions memory (Some f) s → ends_frame (f.name ∷ []) e.request ≡ false → IsInTurn (Some f) e →
    (ends_frame s.frames e.request ≡ false) × (frame_taken e.request e.reply ≡ [])
stays_open f s e h ends turn = (
  ap (λ fs. ends_frame fs e.request) h.facts.at_frame.frames ∙ ends,
  subst (λ b. Turn b e.caller f.caller (frame_taken e.request e.reply)) ends turn,
)

-- A dispose reads nothing.
pub dispose_printed : (o : Option OpenFrame) (e : Entry) (name : ℕ) → e.request ≡ request.Dispose name
    → is_frame_read o e ≡ false
dispose_printed o e name asks = ap (λ q. reads_frame (frames_by o e.caller) q) asks

-- The end of the open frame, in a replay.
module _ {functions : List Func} {memory : ReplayMemory} (f : OpenFrame) (s : Standing)
    (h : IsReplay functions memory (Some f) s) where
  abbrev pub ends_now : Run
  ends_now = run_from s (Some f.name)

  abbrev pub view_now : Map
  view_now = frame_map ends_now f.name

  abbrev pub end_entry : Entry
  end_entry = entry s.world f.caller (request.Dispose f.name)

  -- The composition before the frame, and the reads of the frame.
  pub composed_at : IsAt memory.composition s.kept (Some view_now)
  composed_at = frame_at f.caller f.name ends_now h.facts

  pub reads_agree : AgreesWith view_now memory.reads.reads.items
  reads_agree = h.recorded.of_frame view_now h.facts.at_frame.last

  abbrev pub good_now : Option FrameResult
  good_now = frame (functions_of memory.composition.program.now) s.kept view_now

  pub good_is : good_now ≡ outcome functions ends_now f.name
  good_is = frame_is f.caller f.name ends_now h.facts

  end_bytes : (style : LineStyle)
      → entry_line style.titles end_entry ++ flat (frame_lines style.flags s.kept good_now)
      ≡ flat (lines_at style functions s end_entry)
  end_bytes style =
      ap (λ (o : Option FrameResult). entry_line style.titles end_entry ++ flat (frame_lines style.flags s.kept o))
      good_is
      ∙ sym (parts.end_bytes f.caller f.name ends_now h.facts style)
      ∙ ap flat (append-nil (lines_at style functions s end_entry))

  frame_gone : frame_after (Some f) end_entry ≡ None
  frame_gone = ap (λ b. cond (b || false) None (Some f)) (itself f.name)

  end_replay : {memory' : ReplayMemory} → IsAt memory'.composition (kept_after s.kept good_now) (Some view_now)
      → memory'.composition.program ≡ memory.composition.program →
      memory'.reads.given ≡ zero → memory'.reads.reads.items ≡ []
      → IsReplay functions memory' None (next functions s end_entry)
  end_replay {memory' = memory'} at program given none = record {
    facts = facts_as f.caller 0 (from_now (end_facts f.caller f.name ends_now h.facts tt at program));
    recorded = none_recorded None (last_of (next functions s end_entry).world watcher_number) memory'.reads given none;
    watchers = ap (λ (w : World BuiltIn). length w.lasts) (next_world functions s end_entry)
        ∙ same_watchers s.world f.caller (request.Dispose f.name) ∙ h.watchers;
  }

  -- The call that ends the frame is the dispose of its snapshot by its caller.
  pub the_end : (e : Entry) → IsAnswered s.world e → ends_frame (f.name ∷ []) e.request ≡ true → IsInTurn (Some f) e
      → end_entry ≡ e
  the_end e legal ends turn =
      let own : e.caller ≡ f.caller = subst (λ b. Turn b e.caller f.caller (frame_taken e.request e.reply)) ends turn in
      ap (λ c. entry s.world c (request.Dispose f.name)) (sym own)
      ∙ ap (λ q. entry s.world e.caller q) (sym (dispose_name f.name e.request ends)) ∙ legal_entry s.world e legal

  module _ (style : LineStyle) (written mid written' : Option (List ℕ)) (e : Entry) (legal : IsAnswered s.world e)
      (ends : ends_frame (f.name ∷ []) e.request ≡ true) (turn : IsInTurn (Some f) e)
      (line : Appends written mid (entry_line style.titles e)) where
    end_says : {T : Type 0} (a : Result T Stop)
        → WritesBytes mid written' (flat (frame_lines style.flags s.kept good_now)) a
        → WritesBytes written written' (flat (call_lines style functions (Some f) s e)) a
    end_says a says =
        let is = the_end e legal ends turn in
        subst (λ l. WritesBytes written written' l a)
        (ap (λ (x : Entry). entry_line style.titles x ++ flat (frame_lines style.flags s.kept good_now)) (sym is)
        ∙ end_bytes style
        ∙ ap (λ (x : Entry). flat (lines_at style functions s x)) is
        ∙ ap (λ b. flat (cond b [] (lines_at style functions s e)))
        (sym (dispose_printed (Some f) e f.name (dispose_name f.name e.request ends))))
        (says_behind a written mid written' (entry_line style.titles e) (flat (frame_lines style.flags s.kept good_now))
        line says)

    -- The frame was composed, and its lines were written.
    pub plays_end : {T : Type 0} {memory' : ReplayMemory} (t : T)
        → WritesBytes {E = Stop} mid written' (flat (frame_lines style.flags s.kept good_now)) (Ok t)
        → IsAt memory'.composition (kept_after s.kept good_now) (Some view_now) →
        memory'.composition.program ≡ memory.composition.program → memory'.reads.given ≡ zero
        → memory'.reads.reads.items ≡ [] → PlaysCall style functions memory' written written' (Some f) s e (Ok None)
    plays_end {memory' = memory'} t says at program given none =
        let is = the_end e legal ends turn in
        record {
          says = record { all = (end_says (Ok t) says).all; part = tt };
          left = (
            sym (ap (λ b. cond b None (Some f)) ends),
            subst (IsReplay functions memory' None)
                (ap (next functions s) is ∙ ap (λ b. cond b s (next functions s e))
                (sym (dispose_printed (Some f) e f.name (dispose_name f.name e.request ends))))
                (end_replay at program given none),
          );
        }

    pub plays_end_stopped : {T : Type 0} {memory' : ReplayMemory} (stop stop' : Stop)
        → WritesBytes {T = T} mid written' (flat (frame_lines style.flags s.kept good_now)) (Err stop)
        → PlaysCall style functions memory' written written' (Some f) s e (Err stop')
    plays_end_stopped stop stop' says =
        record { says = record { all = tt; part = (end_says (Err stop) says).part }; left = tt }

-- The composition before the first call.
pub replay_opened : {functions : List Func} (memory : ReplayMemory) (states : List State) → StatesFit states
    → IsAt memory.composition no_last_frame None → functions_of memory.composition.program.now ≡ functions →
    memory.reads.given ≡ zero → memory.reads.reads.items ≡ [] → IsReplay functions memory None (initial_standing states)
replay_opened memory states fit at same given none = record {
  facts = opened_facts {stands = no_world} 0 states None fit tt at same;
  recorded = none_recorded None (last_of (opening_world states) watcher_number) memory.reads given none;
  watchers = ap (λ (ls : List (Option Map)). length (ls ++ None ∷ [])) (lasts-states (start 0) states);
}

-- The calls before `rest` were gone past, and their lines were written. `all` is the text of the whole history.
pub record Replayed (style : LineStyle) (functions : List Func) (memory : ReplayMemory) (frame : Option ReplayFrame)
    (start written : Option (List ℕ)) (all : List ℕ) (rest : History) : Type 0 where
  pub now : Standing
  pub at : IsReplay functions memory (frame_of frame) now
  pub legal : IsLegal table now.world rest
  pub turn : AreInTurn (frame_of frame) (printed_from (frames_by (frame_of frame)) rest)
  pub said : List ℕ
  pub wrote : Appends start written said
  pub split : said ++ flat (lines style functions now (printed_from (frames_by (frame_of frame)) rest)) ≡ all

-- The next call was gone past with this result, in each state that is represented before.
abbrev NextPlayed : (style : LineStyle) (functions : List Func) (memory memory' : ReplayMemory)
    (frame : Option ReplayFrame) (written written' : Option (List ℕ)) (result : Result (Option ReplayFrame) Stop)
    → Entry → Type 0
NextPlayed style functions memory memory' frame written written' result e =
    (s : Standing) → IsReplay functions memory (frame_of frame) s → IsAnswered s.world e → IsInTurn (frame_of frame) e →
    PlaysCall style functions memory' written written' (frame_of frame) s e result

module _ {style : LineStyle} {functions : List Func} where
  -- No call was gone past yet.
  pub replayed_none : {memory : ReplayMemory} (s : Standing) (h items : History) (written : Option (List ℕ)) → items ≡ h
      → IsReplay functions memory None s → IsLegal table s.world h → AreInTurn None (printed_history h) →
      Replayed style functions memory None written written (flat (lines style functions s (printed_history h))) items
  replayed_none {memory} s h items written same at legal turn =
      let none = printed_same (frames_by None) no_frames (λ a. refl) h in
      subst (Replayed style functions memory None written written (flat (lines style functions s (printed_history h))))
      (sym same)
      (record {
        now = s;
        at = at;
        legal = legal;
        turn = subst (AreInTurn None) (sym none) turn;
        said = [];
        wrote = appends_none written;
        split = ap (λ l. flat (lines style functions s l)) none;
      })

  module _ {memory : ReplayMemory} {frame : Option ReplayFrame} {start written : Option (List ℕ)} {all : List ℕ}
      (e : Entry) (rest : History) (h : Replayed style functions memory frame start written all (e ∷ rest)) where
    first : FirstCall (frame_of frame) e rest
    first = first_call (frame_of frame) e rest h.turn

    abbrev piece : List ℕ
    piece = flat (call_lines style functions (frame_of frame) h.now e)

    abbrev standing' : Standing
    standing' = standing_then functions (frame_of frame) h.now e

    abbrev left_over : History
    left_over = printed_from (frames_by (frame_after (frame_of frame) e)) rest

    -- The text of the call and of the rest.
    split_first : h.said ++ (piece ++ flat (lines style functions standing' left_over)) ≡ all
    split_first =
        ap (λ l. h.said ++ l) (sym (flat_map-append (λ l. l) (call_lines style functions (frame_of frame) h.now e)
        (lines style functions standing' left_over)) ∙ ap flat (sym (first.lines_are style functions h.now)))
        ∙ h.split

    next_replayed : {memory' : ReplayMemory} (frame' : Option ReplayFrame) (written' : Option (List ℕ))
        → PlaysCall style functions memory' written written' (frame_of frame) h.now e (Ok frame')
        → Replayed style functions memory' frame' start written' all rest
    next_replayed frame' written' p = record {
      now = standing';
      at = p.left.1;
      legal = subst (λ w. IsLegal table w rest) (sym (then_world functions h.now e (frame_of frame))) h.legal.1;
      turn = subst (λ o. AreInTurn o (printed_from (frames_by o) rest)) (sym p.left.0) first.rest;
      said = h.said ++ piece;
      wrote = Appends-trans start written written' h.said piece h.wrote p.says.all;
      split = append_assoc h.said piece
          (flat (lines style functions standing' (printed_from (frames_by (frame_of frame')) rest)))
          ∙ ap (λ o. h.said ++ (piece ++ flat (lines style functions standing' (printed_from (frames_by o) rest))))
          p.left.0 ∙ split_first;
    }

    next_stopped : {T : Type 0} {memory' : ReplayMemory} (stop : Stop) (written' : Option (List ℕ))
        → PlaysCall style functions memory' written written' (frame_of frame) h.now e (Err stop)
        → WritesBytes {T = T} start written' all (Err stop)
    next_stopped stop written' p = record {
      all = tt;
      part = part_next start written written' h.said piece (flat (lines style functions standing' left_over)) all
          split_first h.wrote p.says.part;
    }

  -- One more call was gone past.
  pub replayed_next : {memory memory' : ReplayMemory} {frame : Option ReplayFrame}
      {start written written' : Option (List ℕ)} {all : List ℕ} {items : History} (e : Entry) (rest : History)
      (frame' : Option ReplayFrame) → items ≡ e ∷ rest →
      Replayed style functions memory frame start written all items
      → NextPlayed style functions memory memory' frame written written' (Ok frame') e
      → Replayed style functions memory' frame' start written' all rest
  replayed_next {memory} {memory'} {frame} {start} {written} {written'} {all} {items} e rest frame' is_first before plays =
      let h = subst (Replayed style functions memory frame start written all) is_first before in
      next_replayed e rest h frame' written' (plays h.now h.at h.legal.0 (first e rest h).turn)

  -- A line was not written whole, or there was no memory.
  pub replayed_stopped : {T : Type 0} {memory memory' : ReplayMemory} {frame : Option ReplayFrame}
      {start written written' : Option (List ℕ)} {all : List ℕ} {items : History} (e : Entry) (rest : History)
      (stop : Stop) → items ≡ e ∷ rest →
      Replayed style functions memory frame start written all items
      → NextPlayed style functions memory memory' frame written written' (Err stop) e
      → WritesBytes {T = T} start written' all (Err stop)
  replayed_stopped {T} {memory} {memory'} {frame} {start} {written} {written'} {all} {items} e rest stop is_first before plays =
      let h = subst (Replayed style functions memory frame start written all) is_first before in
      next_stopped e rest h stop written' (plays h.now h.at h.legal.0 (first e rest h).turn)

  -- All calls were gone past.
  pub replayed_all : {T : Type 0} {memory : ReplayMemory} {frame : Option ReplayFrame} {start written : Option (List ℕ)}
      {all : List ℕ} {items : History} (x : T) → length items ≡ 0
      → Replayed style functions memory frame start written all items → WritesBytes {E = Stop} start written all (Ok x)
  replayed_all {start = start} {written = written} {items = []} x none h =
      record { all = subst (Appends start written) (sym (append-nil h.said) ∙ h.split) h.wrote; part = tt }
  replayed_all {items = e ∷ rest} x none h = absurd (omega arith)
