-- What each call of a history leaves, and the lines that were written.
use Rattle.std.proofs.Common.{◌≡◌, ℕ, zero, ◌+◌, ◌==◌, ◌||◌, List, [], ◌∷◌, ◌++◌, Bool, true, false, cond, length, refl, sym, ap, ◌∙◌, subst, Option, Some, None, Ok, Err, append-nil}
use Rattle.std.specs.declared.result.Result.{Result}
use Rattle.std.specs.Io.KnownBytes.{Appends}
use Rattle.std.specs.Option.{is_some, option_map}
use Rattle.rt_streams.specs.Streams.{AppendsPart}
use Rattle.rt_streams.proofs.Parts.{part-front}
use Rattle.rt_values.specs.Maps.{Map, differ}
use Rattle.rt_groups.specs.PreorderGroups.{preorder}
use Rattle.rt_groups.specs.Frames.{LastFrame}
use Rattle.lang_ast.specs.Terms.{Func}
use Rattle.lang_ast.specs.Programs.{functions_of}
use Rattle.compose_model.specs.Frame.{FrameResult, frame, kept_after}
use Rattle.snap_policy.specs.Table.{table}
use Rattle.snap_policy.specs.declared.policy.BuiltIn.{BuiltIn}
use Rattle.snap_api.proofs.LawsApplies.{objects_call}
use Rattle.snap_api.specs.World.{World}
use Rattle.snap_api.specs.declared.data.Entry.{Entry}
use Rattle.snap_api.specs.declared.data.Reply.{Reply}
use Rattle.snap_api.specs.declared.data.Reply.TheVariants as reply
use Rattle.recomposer.specs.Compositions.{IsAt}
use Rattle.recomposer.specs.declared.composition.Composition.{Composition}
use Rattle.lang_script.specs.StepCalls.{frame_begun}
use Rattle.script_lang.specs.Lines.{Titles, LineStyle, call_text, reply_text, ends_frame, frame_at, frame_taken, next, actor_name}
use Rattle.script_lang.specs.PrintedCalls.{reads_frame}
use Rattle.play_laws.specs.FramesInTurn.{OpenFrame}
use Rattle.play_run.specs.CallsInFrames.{frame_by, is_frame_read, object_asked, value_given, IsInTurn, standing_then}
use Rattle.play_run.specs.ReplayState.{frame_of, IsAnswered, IsReplay, PlaysCall}
use Rattle.play_run.specs.RunPromise.{WritesBytes}
use Rattle.play_run.specs.RunState.{flat}
use Rattle.play_run.specs.declared.replaying.ReplayFrame.{ReplayFrame}
use Rattle.play_run.specs.declared.replaying.ReplayMemory.{ReplayMemory}
use Rattle.play_run.specs.declared.write_lines.Stop.{Stop}
use Rattle.play_run.proofs.CallLines.{nothing_said}
use Rattle.play_run.proofs.FrameParts.{Noted}
use Rattle.play_run.proofs.OpenFrames.{no_frame_begun, within}
use Rattle.play_run.proofs.PrintedCalls.{itself, reads_none, asked_is_read}
use Rattle.play_run.proofs.Replays.{plays_quiet, plays_read, plays_outside, plays_end, unended, asked_of, is_read, end_entry, the_end, view_now, good_is}
use Rattle.play_run.proofs.RunLogs.{next_world}
use Rattle.play_run.proofs.Written.{says_behind, appends_none}
use Rattle.trace_lines.specs.TraceLines.{FrameHead, call_line}
use Rattle.trace_play.specs.TraceText.{TraceStanding, changed_after, frame_line, ended_line, trace_lines_at, trace_next}
use Rattle.trace_play.specs.TraceState.{frame_head, reads_open, IsOwnRead, IsTrace, trace_call_lines, trace_then, TellsCall}
use Rattle.trace_play.specs.declared.memory.TraceMemory.{TraceMemory}

-- The line of a call.
abbrev pub words_line : Titles → Entry → List ℕ
words_line titles e = call_line (call_text titles e.caller e.request ++ reply_text titles e.reply)

-- The replay inside a trace, whose own lines are not looked at.
abbrev unseen : Titles → LineStyle
unseen titles = record { titles = titles; flags = record { json = false; ops = false } }

-- A call that reads no open snapshot is no read of the frame.
unread : (o : Option OpenFrame) (e : Entry) → reads_open o e ≡ false → is_frame_read o e ≡ false
unread None e out = out
unread (Some f) e out = by (f.caller == e.caller)
  where
    by : (b : Bool) → reads_frame (cond b (f.name ∷ []) []) e.request ≡ false
    by true = out
    by false = reads_none e.request

-- A reply that begins no frame lists nothing as changed.
quiet_changed : (xs : List ℕ) (y : Reply) → frame_begun y ≡ None → changed_after xs y ≡ xs
quiet_changed xs (reply.TakenFor name changed) none = absurd cc
quiet_changed xs (reply.Taken n) none = refl
quiet_changed xs (reply.Got v) none = refl
quiet_changed xs (reply.Wrote b) none = refl
quiet_changed xs reply.Applied none = refl
quiet_changed xs reply.Disposed none = refl
quiet_changed xs (reply.Refused r) none = refl

module _ (titles : Titles) (functions : List Func) (t : TraceStanding) (e : Entry) where
  -- A call that ends no frame: its lines, and what is kept.
  quiet_lines : ends_frame t.at.frames e.request ≡ false
      → flat (trace_lines_at titles functions t e) ≡ words_line titles e
  quiet_lines unends =
      ap (λ b. flat (words_line titles e ∷ cond b (ended_line titles functions t e ∷ []) [])) unends
      ∙ append-nil (words_line titles e)

  quiet_kept : ends_frame t.at.frames e.request ≡ false → (next functions t.at e).kept ≡ t.at.kept
  quiet_kept unends = rw unends refl

  quiet_count : ends_frame t.at.frames e.request ≡ false → (trace_next titles functions t e).count ≡ t.count
  quiet_count unends = rw unends refl

  same_changed : ends_frame t.at.frames e.request ≡ false
      → (trace_next titles functions t e).changed ≡ changed_after t.changed e.reply
  same_changed unends = rw unends refl

  -- A printed call.
  printed_then : (o : Option OpenFrame) → reads_open o e ≡ false
      → trace_then titles functions o t e ≡ trace_next titles functions t e
  printed_then o out = ap (λ b. cond b t (trace_next titles functions t e)) out

  printed_lines : (o : Option OpenFrame) → reads_open o e ≡ false
      → trace_call_lines titles functions o t e ≡ trace_lines_at titles functions t e
  printed_lines o out = ap (λ b. cond b [] (trace_lines_at titles functions t e)) out

  -- The replay after a printed call is at the next state.
  at_next : {memory' : ReplayMemory} (o o' : Option OpenFrame) → is_frame_read o e ≡ false
      → IsReplay functions memory' o' (standing_then functions o t.at e)
      → IsReplay functions memory' o' (next functions t.at e)
  at_next {memory'} o o' out h =
      subst (IsReplay functions memory' o') (ap (λ b. cond b t.at (next functions t.at e)) out) h

  -- The number of states after a call.
  objects_next : (old new : Composition) → new.program ≡ old.program
      → length t.at.world.objects ≡ length old.program.now.states.items
      → length (next functions t.at e).world.objects ≡ length new.program.now.states.items
  objects_next old new same h =
      ap (λ (w : World BuiltIn). length w.objects) (next_world functions t.at e)
      ∙ ap (λ l. length l) (objects_call table t.at.world e.caller e.request)
      ∙ h ∙ sym (ap (λ p. length p.now.states.items) same)

-- A trace whose memory is the same but for its buffers.
pub record Stays (memory memory' : TraceMemory) : Type 0 where
  pub composition : memory'.replay.composition ≡ memory.replay.composition
  pub reads : memory'.replay.reads ≡ memory.replay.reads
  pub last : memory'.last ≡ memory.last
  pub changed : memory'.changed ≡ memory.changed
  pub count : memory'.frames ≡ memory.frames

module _ (titles : Titles) {functions : List Func} (t : TraceStanding) (e : Entry) where
  -- The line of a printed call was not written whole.
  pub told_stopped : {T : Type 0} {memory' : TraceMemory} (o : Option OpenFrame) (stop : Stop)
      (written written' : Option (List ℕ)) → reads_open o e ≡ false →
      WritesBytes {T = T} written written' (words_line titles e) (Err stop)
      → TellsCall titles functions memory' written written' o t e (Err stop)
  told_stopped o stop written written' out says =
      let part : AppendsPart written written' (flat (trace_lines_at titles functions t e)) =
      part-front written written' (words_line titles e) _ says.part in
      record {
        says = record {
          all = tt;
          part = subst (AppendsPart written written') (sym (ap flat (printed_lines titles functions t e o out))) part;
        };
        left = tt;
      }

  -- A call of no memory.
  pub told_nothing : {memory' : TraceMemory} (o : Option OpenFrame) (stop : Stop) (written : Option (List ℕ))
      → TellsCall titles functions memory' written written o t e (Err stop)
  told_nothing o stop written = record { says = nothing_said stop written _; left = tt }

module _ (titles : Titles) {functions : List Func} {memory : TraceMemory} (t : TraceStanding) (e : Entry) where
  -- A printed call that neither ends nor begins a frame: its line was written.
  pub told_quiet : {memory' : TraceMemory} (now : Option ReplayFrame) (written written' : Option (List ℕ))
      → IsAnswered t.at.world e → IsTrace functions memory (frame_of now) t → reads_open (frame_of now) e ≡ false →
      ends_frame t.at.frames e.request ≡ false → frame_taken e.request e.reply ≡ [] → Stays memory memory' →
      Appends written written' (words_line titles e)
      → TellsCall titles functions memory' written written' (frame_of now) t e (Ok now)
  told_quiet {memory'} now written written' legal h out unends untaken stays wrote =
      let o = frame_of now in
      let replayed : PlaysCall (unseen titles) functions memory'.replay None None o t.at e (Ok now) =
      plays_quiet t.at e (unseen titles) now None None legal h.replay (unread o e out) unends untaken
      stays.composition stays.reads tt in
      let none : frame_begun e.reply ≡ None = ap frame_begun (sym legal)
      ∙ (no_frame_begun t.at.world e.caller e.request (ap (frame_taken e.request) legal ∙ untaken)).1 in
      record {
        says = record {
          all = subst (Appends written written')
              (sym (ap flat (printed_lines titles functions t e o out) ∙ quiet_lines titles functions t e unends))
              wrote;
          part = tt;
        };
        left = subst (IsTrace functions memory' o) (sym (printed_then titles functions t e o out)) (record {
          replay = at_next titles functions t e o o (unread o e out) replayed.left.1;
          count = stays.count ∙ h.count ∙ sym (quiet_count titles functions t e unends);
          changed = stays.changed ∙ h.changed
              ∙ sym (same_changed titles functions t e unends ∙ quiet_changed t.changed e.reply none);
          last = ap (λ l. l.groups) stays.last ∙ h.last
              ∙ ap (λ (k : LastFrame). preorder 0 k.trail) (sym (quiet_kept titles functions t e unends));
          objects = objects_next titles functions t e memory.replay.composition memory'.replay.composition
              (ap (λ (c : Composition). c.program) stays.composition) h.objects;
        });
      }

  -- The line of a call was written while no frame was open.
  pub told_outside : {memory' : TraceMemory} (now : Option ReplayFrame) (name : Option ℕ)
      (written written' : Option (List ℕ)) → IsAnswered t.at.world e → IsTrace functions memory None t →
      memory'.replay.reads ≡ memory.replay.reads → name ≡ frame_begun e.reply
      → frame_of now ≡ option_map (frame_by e.caller) name →
      Noted e.reply memory.replay.composition memory'.replay.composition → memory'.last ≡ memory.last
      → memory'.changed ≡ changed_after memory.changed e.reply → memory'.frames ≡ memory.frames →
      Appends written written' (words_line titles e)
      → TellsCall titles functions memory' written written' None t e (Ok now)
  told_outside {memory'} now name written written' legal h reads named is noted last changed count wrote =
      let unends = unended h.replay e.request in
      let out : reads_open None e ≡ false = reads_none e.request in
      let replayed : PlaysCall (unseen titles) functions memory'.replay None None None t.at e (Ok now) =
      plays_outside memory'.replay (unseen titles) t.at h.replay None None reads now name e legal named is noted tt in
      record {
        says = record {
          all = subst (Appends written written')
              (sym (ap flat (printed_lines titles functions t e None out) ∙ quiet_lines titles functions t e unends))
              wrote;
          part = tt;
        };
        left = subst (IsTrace functions memory' (frame_of now)) (sym (printed_then titles functions t e None out)) (record {
          replay = at_next titles functions t e None (frame_of now) (unread None e out) replayed.left.1;
          count = count ∙ h.count ∙ sym (quiet_count titles functions t e unends);
          changed = changed ∙ ap (λ xs. changed_after xs e.reply) h.changed
              ∙ sym (same_changed titles functions t e unends);
          last = ap (λ l. l.groups) last ∙ h.last
              ∙ ap (λ (k : LastFrame). preorder 0 k.trail) (sym (quiet_kept titles functions t e unends));
          objects = objects_next titles functions t e memory.replay.composition memory'.replay.composition
              noted.program h.objects;
        });
      }

  -- A read of the open frame was recorded.
  pub told_read : {memory' : TraceMemory} (f : OpenFrame) (x : ℕ) → object_asked f e.caller e.request ≡ Some x
      → (now : Option ReplayFrame) (written : Option (List ℕ)) → frame_of now ≡ Some f → IsAnswered t.at.world e →
      IsTrace functions memory (Some f) t → memory'.replay.composition ≡ memory.replay.composition
      → memory'.replay.reads.given ≡ memory.replay.reads.given →
      memory'.replay.reads.reads.items ≡ memory.replay.reads.reads.items ++ (x, value_given e.reply) ∷ []
      → memory'.last ≡ memory.last → memory'.changed ≡ memory.changed → memory'.frames ≡ memory.frames →
      TellsCall titles functions memory' written written (Some f) t e (Ok now)
  told_read {memory'} f x asks now written same legal h kept given grew last changed count =
      let who = asked_of f e.caller x e.request asks in
      let inside : reads_open (Some f) e ≡ true = ap (λ q. reads_frame (f.name ∷ []) q) who.1
      ∙ ap (λ b. b || false) (itself f.name) in
      let replayed : PlaysCall (unseen titles) functions memory'.replay None None (Some f) t.at e (Ok now) =
      plays_read t.at e f x asks (unseen titles) now None same legal h.replay kept given grew in
      record {
        says = record {
          all = subst (Appends written written)
              (sym (ap (λ b. flat (cond b [] (trace_lines_at titles functions t e))) inside)) (appends_none written);
          part = tt;
        };
        left = subst (IsTrace functions memory' (frame_of now))
            (sym (ap (λ b. cond b t (trace_next titles functions t e)) inside)) (record {
              replay = subst (IsReplay functions memory'.replay (frame_of now))
                  (ap (λ b. cond b t.at (next functions t.at e)) (is_read f e x asks)) replayed.left.1;
              count = count ∙ h.count;
              changed = changed ∙ h.changed;
              last = ap (λ l. l.groups) last ∙ h.last;
              objects = h.objects ∙ sym (ap (λ (c : Composition). length c.program.now.states.items) kept);
            });
      }

-- The end of the open frame.
module _ (titles : Titles) {functions : List Func} {memory : TraceMemory} (f : OpenFrame) (t : TraceStanding)
    (h : IsTrace functions memory (Some f) t) where
  abbrev pub shown_now : Map
  shown_now = view_now f t.at h.replay

  abbrev pub told_head : FrameHead
  told_head = frame_head (memory.frames + 1) (actor_name titles.actors f.caller) f.name memory.changed
      (differ t.at.kept.seen shown_now)

  abbrev pub result_now : Option FrameResult
  result_now = frame (functions_of memory.replay.composition.program.now) t.at.kept shown_now

  ends_now : (e : Entry) → ends_frame (f.name ∷ []) e.request ≡ true → ends_frame t.at.frames e.request ≡ true
  ends_now e ends = ap (λ fs. ends_frame fs e.request) h.replay.facts.at_frame.frames ∙ ends

  -- The map that the frame shows has the program's states.
  pub shown_states : length shown_now ≡ length memory.replay.composition.program.now.states.items
  shown_states = (h.replay.facts.valid.shaped.full f.name
      (within t.at.world f.caller f.name h.replay.facts.valid h.replay.facts.few h.replay.facts.at_frame.own).0).1
      ∙ h.objects

  line_is : (e : Entry) → end_entry f t.at h.replay ≡ e
      → frame_line titles functions told_head t.at.kept result_now ≡ ended_line titles functions t e
  line_is e is =
      ap (λ n. frame_line titles functions (frame_head (n + 1) (actor_name titles.actors f.caller) f.name memory.changed
      (differ t.at.kept.seen shown_now)) t.at.kept result_now) h.count
      ∙ ap (λ xs. frame_line titles functions (frame_head (t.count + 1) (actor_name titles.actors f.caller) f.name xs
      (differ t.at.kept.seen shown_now)) t.at.kept result_now) h.changed
      ∙ ap (λ (o : Option FrameResult). frame_line titles functions (frame_head (t.count + 1)
      (actor_name titles.actors f.caller) f.name t.changed (differ t.at.kept.seen shown_now)) t.at.kept o)
      (good_is f t.at h.replay)
      ∙ ap (λ x. ended_line titles functions t x) is

  kept_is : (e : Entry) → end_entry f t.at h.replay ≡ e → ends_frame (f.name ∷ []) e.request ≡ true
      → kept_after t.at.kept result_now ≡ (next functions t.at e).kept
  kept_is e is ends =
      ap (λ (o : Option FrameResult). kept_after t.at.kept o)
      (good_is f t.at h.replay ∙ ap (λ (x : Entry). frame_at functions t.at x) is)
      ∙ sym (rw (ends_now e ends) refl)

  module _ (written mid written' : Option (List ℕ)) (e : Entry) (legal : IsAnswered t.at.world e)
      (ends : ends_frame (f.name ∷ []) e.request ≡ true) (turn : IsInTurn (Some f) e)
      (out : reads_open (Some f) e ≡ false) (line : Appends written mid (words_line titles e)) where
    end_says : {T : Type 0} (a : Result T Stop)
        → WritesBytes mid written' (frame_line titles functions told_head t.at.kept result_now) a
        → WritesBytes written written' (flat (trace_call_lines titles functions (Some f) t e)) a
    end_says a says =
        let is = the_end f t.at h.replay e legal ends turn in
        subst (λ l. WritesBytes written written' l a)
        (ap (λ l. words_line titles e ++ l) (line_is e is ∙ sym (append-nil (ended_line titles functions t e)))
        ∙ sym (ap (λ b. flat (words_line titles e ∷ cond b (ended_line titles functions t e ∷ []) [])) (ends_now e ends))
        ∙ sym (ap flat (printed_lines titles functions t e (Some f) out)))
        (says_behind a written mid written' (words_line titles e)
        (frame_line titles functions told_head t.at.kept result_now) line says)

    -- The frame was composed, and its line was written.
    pub told_end : {T : Type 0} {memory' : TraceMemory} (x : T)
        → WritesBytes {E = Stop} mid written' (frame_line titles functions told_head t.at.kept result_now) (Ok x)
        → IsAt memory'.replay.composition (kept_after t.at.kept result_now) (Some shown_now) →
        memory'.replay.composition.program ≡ memory.replay.composition.program → memory'.replay.reads.given ≡ zero
        → memory'.replay.reads.reads.items ≡ [] → memory'.changed ≡ [] → memory'.frames ≡ memory.frames + 1 →
        memory'.last.groups ≡ preorder 0 (kept_after t.at.kept result_now).trail
        → TellsCall titles functions memory' written written' (Some f) t e (Ok None)
    told_end {memory' = memory'} x says at program given none changed count last =
        let is = the_end f t.at h.replay e legal ends turn in
        let replayed : PlaysCall (unseen titles) functions memory'.replay None None (Some f) t.at e (Ok None) =
        plays_end f t.at h.replay (unseen titles) None None None e legal ends turn tt x
        (record { all = tt; part = tt }) at program given none in
        record {
          says = record { all = (end_says (Ok x) says).all; part = tt };
          left = subst (IsTrace functions memory' None) (sym (printed_then titles functions t e (Some f) out)) (record {
            replay = at_next titles functions t e (Some f) None (unread (Some f) e out) replayed.left.1;
            count = count ∙ ap (λ n. n + 1) h.count ∙ sym (rw (ends_now e ends) refl);
            changed = changed ∙ sym (rw (ends_now e ends) refl);
            last = last ∙ ap (λ (k : LastFrame). preorder 0 k.trail) (kept_is e is ends);
            objects = objects_next titles functions t e memory.replay.composition memory'.replay.composition
                program h.objects;
          });
        }

    pub told_end_stopped : {T : Type 0} {memory' : TraceMemory} (stop stop' : Stop)
        → WritesBytes {T = T} mid written' (frame_line titles functions told_head t.at.kept result_now) (Err stop)
        → TellsCall titles functions memory' written written' (Some f) t e (Err stop')
    told_end_stopped stop stop' says =
        record { says = record { all = tt; part = (end_says (Err stop) says).part }; left = tt }

-- A call that asks for no object of the open frame, and that would be a call of its caller if it read its snapshot, reads
-- no open snapshot.
pub unasked : (f : OpenFrame) (e : Entry) → object_asked f e.caller e.request ≡ None → IsOwnRead (Some f) e
    → reads_open (Some f) e ≡ false
unasked f e none own = by (reads_open (Some f) e) refl
  where
    by : (b : Bool) → reads_open (Some f) e ≡ b → reads_open (Some f) e ≡ false
    by false out = out
    by true reads =
        let mine : (f.caller == e.caller) ≡ true = ap (λ c. f.caller == c) (own reads) ∙ itself f.caller in
        let read : is_frame_read (Some f) e ≡ true = ap (λ b. reads_frame (cond b (f.name ∷ []) []) e.request) mine
        ∙ reads in
        let two : false ≡ true = sym (ap is_some none) ∙ asked_is_read f e.caller e.request ∙ read in
        absurd cc
