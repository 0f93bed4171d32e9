-- What is written of a history that goes on.
use Rattle.std.proofs.Common.{◌≡◌, ℕ, List, [], ◌∷◌, ◌++◌, Bool, true, false, length, refl, sym, subst, append-nil, Option, Some, None, Ok, Err}
use Rattle.std.specs.Io.KnownBytes.{Appends}
use Rattle.rt_streams.specs.Streams.{AppendsPart}
use Rattle.rt_streams.proofs.Parts.{part-none, part-front}
use Rattle.lang_ast.specs.Terms.{Func}
use Rattle.lang_ast.specs.declared.script.DoForm.{DoForm}
use Rattle.snap_policy.specs.Table.{table}
use Rattle.snap_api.specs.World.{History}
use Rattle.script_lang.specs.Lines.{LineStyle, initial_standing, standing_after, ends_frame, frame_taken}
use Rattle.lang_script.specs.StepCalls.{script_parts, opening_world}
use Rattle.play_laws.specs.FramesInTurn.{OpenFrame, frame_opened, AreInTurn}
use Rattle.play_laws.specs.Laws.{CanBeCompleted, text_of}
use Rattle.play_laws.specs.PrintedHistory.{printed_history}
use Rattle.play_laws.specs.Woven.{initial_actor}
use Rattle.play_laws.proofs.Prints.{printed_is_legal}
use Rattle.play_laws.proofs.Rests.{part_is_completed}
use Rattle.play_laws.proofs.Steps.{nothing_is_spelled}
use Rattle.play_laws.proofs.Weaves.{text_goes_on, lines_tell_the_history}
use Rattle.play_laws.specs.Woven.{IsWoven}
use Rattle.play_laws.proofs.Turns.{Turn}
use Rattle.play_laws.proofs.ScriptTurns.{frames_are_in_turn}
use Rattle.script_lang.specs.declared.flags.Flags.{Flags}
use Rattle.play_threads.specs.declared.actors.ActorsEnd.{ActorsEnd}
use Rattle.play_run.specs.Opening.{StatesFit}
use Rattle.play_run.specs.RunPromise.{job_style, job_functions}
use Rattle.play_run.specs.declared.job.Job.{Job}
use Rattle.play_run.proofs.Openings.{valid_opening}
use Rattle.play_threads.specs.ActorsCalls.{AreActorsCalls}
use Rattle.play_threads.specs.WovenText.{IsScriptHistory, IsWovenText, HasNoFault, WritesWovenText, TextTellsItsHistory}

-- A legal and woven history that begins with these calls.
pub completed : (style : LineStyle) (forms : List DoForm) (h : History) →
    let n = length style.titles.actors in let parts = script_parts style.titles.actors forms in
    (c : CanBeCompleted n parts (opening_world style.titles.states) h) → IsScriptHistory style forms (h ++ c.0)
completed style forms h c = record { legal = c.1; woven = c.2 }

-- The lines of that history, and those of the calls before it goes on.
pub whole_text : (style : LineStyle) (functions : List Func) (forms : List DoForm) (h : History) →
    CanBeCompleted (length style.titles.actors) (script_parts style.titles.actors forms)
    (opening_world style.titles.states) h →
    (more : List ℕ) × IsWovenText style functions forms
    (text_of style functions (initial_standing style.titles.states) h ++ more)
whole_text style functions forms h c =
    let standing = initial_standing style.titles.states in (
      text_of style functions (standing_after functions standing h) c.0,
      record {
        history = h ++ c.0;
        possible = completed style forms h c;
        is = sym (text_goes_on style functions standing h c.0);
      },
    )

-- Each script has such lines.
pub some_text : (style : LineStyle) (functions : List Func) (forms : List DoForm)
    → (out : List ℕ) × IsWovenText style functions forms out
some_text style functions forms =
    let parts = script_parts style.titles.actors forms in
    let whole = whole_text style functions forms []
    (part_is_completed (length style.titles.actors) parts (opening_world style.titles.states) [] tt
    (λ a below. (nothing_is_spelled (initial_actor parts a)).0) (λ a far. refl)) in
    (_, whole.1)

-- Frames are in turn in a first part of a history in which they are.
pub in_turn_part : (o : Option OpenFrame) (h more : History) → AreInTurn o (h ++ more) → AreInTurn o h
in_turn_part o [] more t = tt
in_turn_part None (e ∷ es) more t = in_turn_part (frame_opened e.caller (frame_taken e.request e.reply)) es more t
in_turn_part (Some f) (e ∷ es) more t =
    by (ends_frame (f.name ∷ []) e.request) t (in_turn_part None es more) (in_turn_part (Some f) es more) where
      by : (b : Bool) → Turn b ((e.caller ≡ f.caller) × AreInTurn None (es ++ more))
          ((frame_taken e.request e.reply ≡ []) × AreInTurn (Some f) (es ++ more)) →
          (AreInTurn None (es ++ more) → AreInTurn None es) → (AreInTurn (Some f) (es ++ more) → AreInTurn (Some f) es) →
          Turn b ((e.caller ≡ f.caller) × AreInTurn None es) ((frame_taken e.request e.reply ≡ []) × AreInTurn (Some f) es)
      by true t ended going = (t.0, ended t.1)
      by false t ended going = (t.0, going t.1)

pub text_tells : TextTellsItsHistory
text_tells style functions forms h k names a b e =
    lines_tell_the_history style functions (length style.titles.actors) names (initial_standing style.titles.states)
    (initial_actor (script_parts style.titles.actors forms)) h k a.legal b.legal a.woven b.woven e

-- Frames are in turn in the printed calls of the actors of a job.
pub calls_in_turn : (job : Job) (end : ActorsEnd) → StatesFit job.program.states.items → HasNoFault job
    → AreActorsCalls job end → AreInTurn None (printed_history end.calls.items)
calls_in_turn job end fit fault made =
    let states = job.program.states.items in
    let forms = job.script.forms.items in
    let h = printed_history end.calls.items in
    let more = made.part.0 in
    in_turn_part None h more
    (frames_are_in_turn states None forms (h ++ more) (valid_opening states fit) fault.fine made.part.1
    (subst (λ (actors : List (List ℕ)). IsWoven (length actors) (initial_actor (script_parts actors forms)) (h ++ more))
    fault.actors made.part.2))

-- A first part of the lines of the calls, or all of them.
module _ (job : Job) (flags : Flags) (end : ActorsEnd) (made : AreActorsCalls job end) where
  abbrev made_text : List ℕ
  made_text = text_of (job_style job flags) (job_functions job) (initial_standing job.program.states.items)
      (printed_history end.calls.items)

  pub part_is_written : {T E : Type 0} (e : E) (before now : Option (List ℕ)) → AppendsPart before now made_text
      → WritesWovenText {T = T} before now flags job (Err e)
  part_is_written e before now part =
      let whole = whole_text (job_style job flags) (job_functions job) job.script.forms.items
      (printed_history end.calls.items) made.part in
      (made_text ++ whole.0, whole.1, record { all = tt; part = part-front before now made_text whole.0 part })

  pub all_is_written : {T E : Type 0} (t : T) (before now : Option (List ℕ)) → end.short ≡ false
      → Appends before now made_text → WritesWovenText {T = T} {E = E} before now flags job (Ok t)
  all_is_written t before now whole done =
      let legal = (printed_is_legal table (opening_world job.program.states.items) end.calls.items made.legal).0 in (
        made_text,
        record {
          history = printed_history end.calls.items;
          possible = record { legal = legal; woven = made.woven whole };
          is = refl;
        },
        record { all = done; part = tt },
      )

-- If nothing was made, nothing is written.
pub none_is_written : {T E : Type 0} (e : E) (job : Job) (flags : Flags) (written : Option (List ℕ))
    → WritesWovenText {T = T} written written flags job (Err e)
none_is_written e job flags written =
    let some = some_text (job_style job flags) (job_functions job) job.script.forms.items in
    (some.0, some.1, record { all = tt; part = part-none written some.0 })

pub whole_part : (before now : Option (List ℕ)) (xs : List ℕ) → Appends before now xs → AppendsPart before now xs
whole_part before now xs done = (xs, [], append-nil xs, done)
