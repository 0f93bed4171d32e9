-- Internal: which calls of a history are reads of its open frame, and what the other calls print and leave.
use Rattle.std.specs.Prelude.{◌≡◌, ℕ, ◌==◌, ◌&&◌, Bool, List, [], ◌∷◌, true, false, Option, Some, None, if◌then◌else◌}
use Rattle.std.specs.Option.{option_map}
use Rattle.rt_values.specs.Values.{no_value}
use Rattle.rt_values.specs.declared.value.Value.{Value}
use Rattle.lang_ast.specs.Terms.{Func}
use Rattle.snap_api.specs.declared.data.Entry.{Entry}
use Rattle.snap_api.specs.declared.data.Reply.{Reply}
use Rattle.snap_api.specs.declared.data.Reply.TheVariants as reply
use Rattle.snap_api.specs.declared.data.Request.{Request}
use Rattle.snap_api.specs.declared.data.Request.TheVariants as request
use Rattle.script_lang.specs.Lines.{LineStyle, Standing, ends_frame, frame_taken, lines_at, next}
use Rattle.script_lang.specs.PrintedCalls.{reads_frame}
use Rattle.play_laws.specs.FramesInTurn.{OpenFrame, frame_opened}

-- The snapshot of the open frame, if a frame is open.
abbrev pub name_of : Option OpenFrame → Option ℕ
name_of frame = option_map (λ f. f.name) frame

-- The caller that began the open frame.
abbrev pub caller_of : Option OpenFrame → ℕ
caller_of None = 0
caller_of (Some f) = f.caller

-- The frame that a caller began with this snapshot.
abbrev pub frame_by : ℕ → ℕ → OpenFrame
frame_by caller name = record { caller = caller; name = name }

-- The open frames of each caller: at most one frame is open.
abbrev pub frames_by : Option OpenFrame → ℕ → List ℕ
frames_by None caller = []
frames_by (Some f) caller = if f.caller == caller then f.name ∷ [] else []

-- Whether a call is a read that the open frame makes.
abbrev pub is_frame_read : Option OpenFrame → Entry → Bool
is_frame_read frame e = reads_frame (frames_by frame e.caller) e.request

-- The object of a read in the snapshot of the open frame by the frame's caller.
abbrev pub object_asked : OpenFrame → ℕ → Request → Option ℕ
object_asked f caller (request.Read name x) = if f.caller == caller && f.name == name then Some x else None
object_asked f caller _ = None

-- The value that a read gave: the number 0 if there is no such object.
abbrev pub value_given : Reply → Value
value_given (reply.Got v) = v
value_given _ = no_value

-- The frame that is open after a call.
abbrev pub frame_after : Option OpenFrame → Entry → Option OpenFrame
frame_after None e = frame_opened e.caller (frame_taken e.request e.reply)
frame_after (Some f) e = if ends_frame (f.name ∷ []) e.request then None else Some f

-- While a frame is open, a call either is of the frame's caller and ends the frame, or begins no other frame.
abbrev pub IsInTurn : Option OpenFrame → Entry → Type 0
IsInTurn None e = Unit {0}
IsInTurn (Some f) e = elim (ends_frame (f.name ∷ []) e.request) [
  | true ↦ e.caller ≡ f.caller
  | false ↦ frame_taken e.request e.reply ≡ []
]

-- The lines of a call: none if it is a read of the open frame.
abbrev pub call_lines : LineStyle → List Func → Option OpenFrame → Standing → Entry → List (List ℕ)
call_lines style functions frame s e = if is_frame_read frame e then [] else lines_at style functions s e

-- The state of the walk after a call. A read of the open frame changes nothing.
abbrev pub standing_then : List Func → Option OpenFrame → Standing → Entry → Standing
standing_then functions frame s e = if is_frame_read frame e then s else next functions s e
