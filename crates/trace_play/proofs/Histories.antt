-- The calls of a history, one after the other: what each leaves, and what was written.
use Rattle.std.proofs.Common.{◌≡◌, ◌+◌, length-append, ℕ, zero, List, [], ◌∷◌, ◌++◌, Bool, true, false, cond, length, refl, sym, ap, ◌∙◌, subst, Option, Some, None, Ok, Err, append_assoc, append-nil, arith}
use Rattle.std.proofs.lemmas.Grind.{flat_map-append}
use Rattle.std.specs.declared.result.Result.{Result}
use Rattle.std.specs.Io.KnownBytes.{Appends}
use Rattle.std.proofs.KnownBytes.{Appends-trans}
use Rattle.rt_values.specs.Values.{type_of}
use Rattle.rt_groups.specs.Frames.{no_last_frame}
use Rattle.lang_ast.specs.declared.program.State.{State}
use Rattle.lang_ast.specs.Terms.{Func}
use Rattle.lang_ast.specs.Programs.{functions_of}
use Rattle.snap_policy.specs.Table.{table}
use Rattle.snap_policy.specs.declared.policy.BuiltIn.{BuiltIn}
use Rattle.snap_api.specs.World.{World, History, IsLegal, call, start, world_after_make}
use Rattle.snap_api.specs.declared.data.Entry.{Entry}
use Rattle.recomposer.specs.Compositions.{IsAt}
use Rattle.lang_script.specs.StepCalls.{opening_world, with_states}
use Rattle.script_lang.specs.Lines.{Titles, next}
use Rattle.script_lang.specs.PrintedCalls.{reads_frame, frames_after, printed_calls}
use Rattle.play_laws.specs.FramesInTurn.{OpenFrame}
use Rattle.play_run.specs.ReplayState.{frame_of, IsAnswered}
use Rattle.play_run.specs.RunPromise.{WritesBytes}
use Rattle.play_run.specs.RunState.{flat}
use Rattle.play_run.specs.declared.replaying.ReplayFrame.{ReplayFrame}
use Rattle.play_run.specs.declared.write_lines.Stop.{Stop}
use Rattle.play_run.specs.Opening.{StatesFit}
use Rattle.play_run.proofs.Replays.{read_leaves, replay_opened}
use Rattle.play_run.proofs.RunLogs.{next_world, next_frames}
use Rattle.play_run.proofs.Written.{part_next, appends_none}
use Rattle.trace_play.specs.TraceText.{TraceStanding, initial_trace, trace_lines_at, trace_next, trace_lines}
use Rattle.trace_play.specs.TraceState.{names_open, reads_open, IsTrace, trace_call_lines, trace_then, TellsCall}
use Rattle.trace_play.specs.declared.memory.TraceMemory.{TraceMemory}

-- The open frame of a memory is that of the walk.
frames_are : {functions : List Func} {memory : TraceMemory} (o : Option OpenFrame) (t : TraceStanding)
    → IsTrace functions memory o t → t.at.frames ≡ names_open o
frames_are None t h = h.replay.facts.at_frame
frames_are (Some f) t h = h.replay.facts.at_frame.frames

-- The calls before `rest` were gone past, and their lines were written. `all` is the text of the whole history.
pub record Told (titles : Titles) (functions : List Func) (memory : TraceMemory) (frame : Option ReplayFrame)
    (start written : Option (List ℕ)) (all : List ℕ) (rest : History) : Type 0 where
  pub now : TraceStanding
  pub at : IsTrace functions memory (frame_of frame) now
  pub legal : IsLegal table now.at.world rest
  pub said : List ℕ
  pub wrote : Appends start written said
  pub split : said ++ flat (trace_lines titles functions now (printed_calls now.at.frames rest)) ≡ all

-- The next call was gone past with this result, in each state that is represented before.
abbrev NextTold : (titles : Titles) (functions : List Func) (memory memory' : TraceMemory)
    (frame : Option ReplayFrame) (written written' : Option (List ℕ)) (result : Result (Option ReplayFrame) Stop)
    → Entry → Type 0
NextTold titles functions memory memory' frame written written' result e =
    (t : TraceStanding) → IsTrace functions memory (frame_of frame) t → IsAnswered t.at.world e →
    TellsCall titles functions memory' written written' (frame_of frame) t e result

module _ (titles : Titles) (functions : List Func) (t : TraceStanding) (e : Entry) (rest : History) where
  -- The state of the walk after a call, by whether it reads the snapshot of the open frame.
  abbrev then_by : Bool → TraceStanding
  then_by b = cond b t (trace_next titles functions t e)

  -- The lines of the first call, and then those of the others.
  first_lines : (b : Bool) → reads_frame t.at.frames e.request ≡ b
      → trace_lines titles functions t (printed_calls t.at.frames (e ∷ rest))
      ≡ cond b [] (trace_lines_at titles functions t e)
      ++ trace_lines titles functions (then_by b) (printed_calls (then_by b).at.frames rest)
  first_lines true reads = rw reads refl
  first_lines false reads =
      ap (λ b. trace_lines titles functions t
      (cond b (printed_calls t.at.frames rest) (e ∷ printed_calls (frames_after t.at.frames e) rest))) reads
      ∙ ap (λ fs. trace_lines_at titles functions t e
      ++ trace_lines titles functions (trace_next titles functions t e) (printed_calls fs rest))
      (sym (next_frames functions t.at e))

  -- The world after a call. A read changes no world.
  then_world : (b : Bool) → reads_frame t.at.frames e.request ≡ b
      → (then_by b).at.world ≡ (call table t.at.world e.caller e.request).0
  then_world true reads = sym (read_leaves functions t.at e t.at.frames e.request reads)
  then_world false reads = next_world functions t.at e

module _ {titles : Titles} {functions : List Func} where
  -- No call was gone past yet.
  pub told_none : {memory : TraceMemory} (t : TraceStanding) (h items : History) (written : Option (List ℕ))
      → items ≡ h → IsTrace functions memory None t → IsLegal table t.at.world h →
      Told titles functions memory None written written (flat (trace_lines titles functions t (printed_calls [] h))) items
  told_none {memory} t h items written same at legal =
      subst (Told titles functions memory None written written
      (flat (trace_lines titles functions t (printed_calls [] h)))) (sym same)
      (record {
        now = t;
        at = at;
        legal = legal;
        said = [];
        wrote = appends_none written;
        split = ap (λ fs. flat (trace_lines titles functions t (printed_calls fs h))) (frames_are None t at);
      })

  module _ {memory : TraceMemory} {frame : Option ReplayFrame} {start written : Option (List ℕ)} {all : List ℕ}
      (e : Entry) (rest : History) (h : Told titles functions memory frame start written all (e ∷ rest)) where
    abbrev o : Option OpenFrame
    o = frame_of frame

    abbrev piece : List ℕ
    piece = flat (trace_call_lines titles functions o h.now e)

    abbrev standing' : TraceStanding
    standing' = trace_then titles functions o h.now e

    reads_is : reads_frame h.now.at.frames e.request ≡ reads_open o e
    reads_is = ap (λ fs. reads_frame fs e.request) (frames_are o h.now h.at)

    -- The text of the call and of the rest.
    split_first : h.said ++ (piece ++ flat (trace_lines titles functions standing' (printed_calls standing'.at.frames rest)))
        ≡ all
    split_first =
        ap (λ l. h.said ++ l) (sym (flat_map-append (λ l. l) (trace_call_lines titles functions o h.now e)
        (trace_lines titles functions standing' (printed_calls standing'.at.frames rest)))
        ∙ ap flat (sym (first_lines titles functions h.now e rest (reads_open o e) reads_is)))
        ∙ h.split

    next_told : {memory' : TraceMemory} (frame' : Option ReplayFrame) (written' : Option (List ℕ))
        → TellsCall titles functions memory' written written' o h.now e (Ok frame')
        → Told titles functions memory' frame' start written' all rest
    next_told frame' written' p = record {
      now = standing';
      at = p.left;
      legal = subst (λ w. IsLegal table w rest)
          (sym (then_world titles functions h.now e rest (reads_open o e) reads_is)) h.legal.1;
      said = h.said ++ piece;
      wrote = Appends-trans start written written' h.said piece h.wrote p.says.all;
      split = append_assoc h.said piece
          (flat (trace_lines titles functions standing' (printed_calls standing'.at.frames rest))) ∙ split_first;
    }

    next_stopped : {T : Type 0} {memory' : TraceMemory} (stop : Stop) (written' : Option (List ℕ))
        → TellsCall titles functions memory' written written' o h.now e (Err stop)
        → WritesBytes {T = T} start written' all (Err stop)
    next_stopped stop written' p = record {
      all = tt;
      part = part_next start written written' h.said piece
          (flat (trace_lines titles functions standing' (printed_calls standing'.at.frames rest))) all
          split_first h.wrote p.says.part;
    }

  -- One more call was gone past.
  pub told_next : {memory memory' : TraceMemory} {frame : Option ReplayFrame}
      {start written written' : Option (List ℕ)} {all : List ℕ} {items : History} (e : Entry) (rest : History)
      (frame' : Option ReplayFrame) → items ≡ e ∷ rest →
      Told titles functions memory frame start written all items
      → NextTold titles functions memory memory' frame written written' (Ok frame') e
      → Told titles functions memory' frame' start written' all rest
  told_next {memory} {memory'} {frame} {start} {written} {written'} {all} {items} e rest frame' is_first before tells =
      let h = subst (Told titles functions memory frame start written all) is_first before in
      next_told e rest h frame' written' (tells h.now h.at h.legal.0)

  -- A line was not written whole, or there was no memory.
  pub told_stop : {T : Type 0} {memory memory' : TraceMemory} {frame : Option ReplayFrame}
      {start written written' : Option (List ℕ)} {all : List ℕ} {items : History} (e : Entry) (rest : History)
      (stop : Stop) → items ≡ e ∷ rest →
      Told titles functions memory frame start written all items
      → NextTold titles functions memory memory' frame written written' (Err stop) e
      → WritesBytes {T = T} start written' all (Err stop)
  told_stop {T} {memory} {memory'} {frame} {start} {written} {written'} {all} {items} e rest stop is_first before tells =
      let h = subst (Told titles functions memory frame start written all) is_first before in
      next_stopped e rest h stop written' (tells h.now h.at h.legal.0)

  -- All calls were gone past.
  pub told_all : {T : Type 0} {memory : TraceMemory} {frame : Option ReplayFrame} {start written : Option (List ℕ)}
      {all : List ℕ} {items : History} (x : T) → length items ≡ 0
      → Told titles functions memory frame start written all items → WritesBytes {E = Stop} start written all (Ok x)
  told_all {start = start} {written = written} {items = []} x none h =
      record { all = subst (Appends start written) (sym (append-nil h.said) ∙ h.split) h.wrote; part = tt }
  told_all {items = e ∷ rest} x none h = absurd (omega arith)

-- The states that a program makes are the objects of its opening world.
count_objects : (w : World BuiltIn) (ss : List State) → length (with_states w ss).objects ≡ length w.objects + length ss
count_objects w [] = omega arith
count_objects w (s ∷ more) =
    let next = world_after_make w (type_of s.initial) s.policy s.initial in
    let one : length next.objects ≡ length w.objects + 1 = length-append w.objects _ in
    count_objects next more ∙ (omega (arith, one))

opened_objects : (states : List State) → length (opening_world states).objects ≡ length states
opened_objects states = let counted = count_objects (start 0) states in omega (arith, counted)

-- The memory before the first call.
pub trace_opened : {functions : List Func} (memory : TraceMemory) (states : List State) → StatesFit states
    → IsAt memory.replay.composition no_last_frame None
    → functions_of memory.replay.composition.program.now ≡ functions
    → memory.replay.composition.program.now.states.items ≡ states →
    memory.replay.reads.given ≡ zero → memory.replay.reads.reads.items ≡ [] → memory.last.groups ≡ []
    → memory.changed ≡ [] → memory.frames ≡ zero → IsTrace functions memory None (initial_trace states)
trace_opened memory states fit at same own given none last changed count = record {
  replay = replay_opened memory.replay states fit at same given none;
  count = count;
  changed = changed;
  last = last;
  objects = opened_objects states ∙ sym (ap (λ l. length l) own);
}
