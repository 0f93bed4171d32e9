-- Trusted: what a summary counts in a history: the replies to the calls outside frames, and the reports of the frames.
use Rattle.std.specs.Prelude.{ℕ, ◌+◌, ◌-◌, ◌^◌, min, List, [], ◌∷◌, Bool, true, false, Option, Some, None, if◌then◌else◌}
use Rattle.std.specs.Option.{option_map}
use Rattle.rt_streams.specs.Streams.{next_count}
use Rattle.rt_groups.specs.declared.report.Report.{Report}
use Rattle.lang_ast.specs.Terms.{Func}
use Rattle.lang_ast.specs.declared.program.State.{State}
use Rattle.compose_model.specs.Frame.{FrameResult}
use Rattle.snap_api.specs.declared.data.Request.{Request}
use Rattle.snap_api.specs.declared.data.Request.TheVariants as request
use Rattle.snap_api.specs.declared.data.Reply.{Reply}
use Rattle.snap_api.specs.declared.data.Reply.TheVariants as reply
use Rattle.snap_api.specs.declared.data.Refusal.{Refusal}
use Rattle.snap_api.specs.declared.data.Refusal.TheVariants as refusal
use Rattle.snap_api.specs.declared.data.Entry.{Entry}
use Rattle.snap_api.specs.World.{History}
use Rattle.lang_script.specs.Scripts.{actors_of}
use Rattle.lang_script.specs.StepCalls.{ActorPart, no_notes, opening_world, sequential, script_parts}
use Rattle.script_lang.specs.Lines.{Standing, initial_standing, ends_frame, frame_at, next}
use Rattle.play_gen.specs.declared.tally.Tally.{Tally}
use Rattle.play_gen.specs.GeneratedProgram.{generated_states, generated_functions}
use Rattle.play_gen.specs.GeneratedScript.{generated_script}

-- A sum that stops at 2^64 - 1, as `next_count` does.
abbrev pub capped_sum : ℕ → ℕ → ℕ
capped_sum a b = min (a + b) (2 ^ 64 - 1)

-- Nothing is counted yet.
abbrev pub no_counts : Tally
no_counts = record {
  taken = 0;
  read = 0;
  changed = 0;
  same = 0;
  applied = 0;
  conflicts = 0;
  refused = 0;
  frames = 0;
  ran = 0;
  calculated = 0;
  reads = 0;
  groups = 0;
  nodes = 0;
}

-- A conflict, or any other refusal.
abbrev pub refusal_counted : Tally → Refusal → Tally
refusal_counted t (refusal.Conflict x) = record t { conflicts = next_count t.conflicts }
refusal_counted t _ = record t { refused = next_count t.refused }

-- The reply to a call outside frames. No count is for disposes.
abbrev pub reply_counted : Tally → Reply → Tally
reply_counted t (reply.Taken name) = record t { taken = next_count t.taken }
reply_counted t (reply.TakenFor name changed) = t
reply_counted t (reply.Got v) = record t { read = next_count t.read }
reply_counted t (reply.Wrote true) = record t { changed = next_count t.changed }
reply_counted t (reply.Wrote false) = record t { same = next_count t.same }
reply_counted t reply.Applied = record t { applied = next_count t.applied }
reply_counted t reply.Disposed = t
reply_counted t (reply.Refused e) = refusal_counted t e

-- The report of a frame: the sums so far, and the groups and nodes of the last frame.
abbrev pub report_counted : Tally → Report → Tally
report_counted t r = record t {
  frames = next_count t.frames;
  ran = capped_sum t.ran r.ran;
  calculated = capped_sum t.calculated r.calculated;
  reads = capped_sum t.reads r.reads;
  groups = r.groups;
  nodes = r.nodes;
}

-- The report of a frame, if it has one. A frame that is refused because it has too many groups has none.
abbrev pub option_counted : Tally → Option Report → Tally
option_counted t None = t
option_counted t (Some r) = report_counted t r

abbrev pub frame_counted : Tally → Option FrameResult → Tally
frame_counted t good = option_counted t (option_map (λ g. g.told) good)

-- Whether a request is made outside frames: no frame is open, and it begins none.
abbrev pub is_outside : List ℕ → Request → Bool
is_outside [] (request.TakeFor watcher) = false
is_outside [] _ = true
is_outside (name ∷ frames) q = false

-- A call of a history, in the state of the walk before it.
abbrev pub entry_counted : List Func → Tally → Standing → Entry → Tally
entry_counted functions t s e =
    if ends_frame s.frames e.request then frame_counted t (frame_at functions s e)
    else if is_outside s.frames e.request then reply_counted t e.reply
    else t

-- The calls of a history, one after the other.
abbrev pub history_counted : List Func → Tally → Standing → History → Tally
history_counted functions t s [] = t
history_counted functions t s (e ∷ es) =
    history_counted functions (entry_counted functions t s e) (next functions s e) es

-- The counts of the history that the steps of a script make one after the other in the plain world.
unfoldable pub run_counted : List State → List Func → List ActorPart → Tally
run_counted states functions parts =
    history_counted functions no_counts (initial_standing states) (sequential (opening_world states) no_notes parts)

-- The counts of the history of the generated script on the generated program.
abbrev pub generated_counts : ℕ → ℕ → Tally
generated_counts number size =
    run_counted (generated_states size) generated_functions
    (script_parts (actors_of (generated_script number size)) (generated_script number size))
