-- Trusted: all that a trace of a script has after its first line: the lines of its history, each call with the text that
-- `run` prints for it, and after the dispose of a frame's snapshot the frame, with why each of its calls ran.
use Rattle.std.specs.Prelude.{ℕ, ◌+◌, List, [], ◌∷◌, ◌++◌, map, Option, Some, None, if◌then◌else◌}
use Rattle.std.specs.List.{flat_map}
use Rattle.rt_values.specs.Maps.{differ}
use Rattle.rt_groups.specs.PreorderGroups.{preorder}
use Rattle.rt_groups.specs.Frames.{LastFrame}
use Rattle.lang_ast.specs.declared.program.State.{State}
use Rattle.lang_ast.specs.Terms.{Func}
use Rattle.compose_model.specs.Frame.{FrameResult}
use Rattle.snap_api.specs.declared.data.Entry.{Entry}
use Rattle.snap_api.specs.declared.data.Reply.{Reply}
use Rattle.snap_api.specs.declared.data.Reply.TheVariants as reply
use Rattle.snap_api.specs.World.{History, snapshot_of}
use Rattle.node_tree.specs.FrameOps.{frame_ops}
use Rattle.lang_script.specs.StepCalls.{ActorPart, no_notes, opening_world, sequential}
use Rattle.script_lang.specs.Lines.{Titles, Standing, initial_standing, next, ends_frame, name_in, frame_at, call_text, reply_text, actor_name, op_text}
use Rattle.run_causes.specs.Causes.{marks}
use Rattle.trace_lines.specs.TraceLines.{Names, names_of, FrameHead, good_frame_line, refused_frame_line, call_line}

-- The state of a walk along a history: that of the printed lines, the number of frames so far, and the objects that
-- changed since the previous frame, as the take of the open frame listed them.
pub record TraceStanding : Type 0 where
  pub at : Standing
  pub count : ℕ
  pub changed : List ℕ

-- The objects that the take of the open frame listed as changed, after a reply.
abbrev pub changed_after : List ℕ → Reply → List ℕ
changed_after xs (reply.TakenFor name changed) = changed
changed_after xs _ = xs

module _ (titles : Titles) (functions : List Func) where
  -- The names of the program that lines show.
  abbrev pub names : Names
  names = names_of titles.states functions

  -- The line of a frame with this head and this result after the kept state `k`.
  abbrev pub frame_line : FrameHead → LastFrame → Option FrameResult → List ℕ
  frame_line h k None = refused_frame_line names h
  frame_line h k (Some good) =
      good_frame_line names h good.told (preorder 0 good.left.trail) (marks h.owed k.trail good.left.trail)
      (map op_text (frame_ops k good.left.trail))

  -- What the line of the frame begins with that a call ends. The frame owes what differs from the map of the last good
  -- frame.
  abbrev pub head_of : TraceStanding → Entry → FrameHead
  head_of t e = record {
    frame = t.count + 1;
    actor = actor_name titles.actors e.caller;
    snapshot = name_in e.request;
    changed = t.changed;
    owed = differ t.at.kept.seen (snapshot_of t.at.world (name_in e.request)).view;
  }

  -- The line of the frame that a call ends.
  abbrev pub ended_line : TraceStanding → Entry → List ℕ
  ended_line t e = frame_line (head_of t e) t.at.kept (frame_at functions t.at e)

  -- The lines of a call, with that of the frame that it ends.
  abbrev pub trace_lines_at : TraceStanding → Entry → List (List ℕ)
  trace_lines_at t e =
      call_line (call_text titles e.caller e.request ++ reply_text titles e.reply)
      ∷ (if ends_frame t.at.frames e.request then ended_line t e ∷ [] else [])

  abbrev pub trace_next : TraceStanding → Entry → TraceStanding
  trace_next t e = record {
    at = next functions t.at e;
    count = if ends_frame t.at.frames e.request then t.count + 1 else t.count;
    changed = if ends_frame t.at.frames e.request then [] else changed_after t.changed e.reply;
  }

  -- The lines of a history, from a state of the walk.
  abbrev pub trace_lines : TraceStanding → History → List (List ℕ)
  trace_lines t [] = []
  trace_lines t (e ∷ es) = trace_lines_at t e ++ trace_lines (trace_next t e) es

-- The state before the first call.
abbrev pub initial_trace : List State → TraceStanding
initial_trace states = record { at = initial_standing states; count = 0; changed = [] }

-- The lines of the history that the steps of a script make one after the other.
unfoldable pub trace_text : Titles → List Func → List ActorPart → List ℕ
trace_text titles functions parts =
    flat_map (λ l. l)
    (trace_lines titles functions (initial_trace titles.states)
    (sequential (opening_world titles.states) no_notes parts))
