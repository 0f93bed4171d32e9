-- Trusted: which calls of a history are printed: all except the reads of the snapshots of open frames, of whichever
-- caller.
use Rattle.std.specs.Prelude.{ℕ, ◌==◌, not, List, [], ◌∷◌, ◌++◌, Bool, false, if◌then◌else◌}
use Rattle.std.specs.List.{filter}
use Rattle.rt_values.specs.Maps.{contains}
use Rattle.snap_api.specs.declared.data.Entry.{Entry}
use Rattle.snap_api.specs.declared.data.Request.{Request}
use Rattle.snap_api.specs.declared.data.Request.TheVariants as request
use Rattle.snap_api.specs.World.{History}
use Rattle.script_lang.specs.Lines.{ends_frame, frame_taken, name_in}

-- Whether a call reads the snapshot of an open frame.
abbrev pub reads_frame : List ℕ → Request → Bool
reads_frame frames (request.Read name x) = contains name frames
reads_frame frames _ = false

-- The snapshots of the frames that are open after a call.
abbrev pub frames_after : List ℕ → Entry → List ℕ
frames_after frames e =
    if ends_frame frames e.request then filter (λ n. not (n == name_in e.request)) frames
    else frames ++ frame_taken e.request e.reply

-- The calls of a history that are printed.
abbrev pub printed_calls : List ℕ → History → History
printed_calls frames [] = []
printed_calls frames (e ∷ es) =
    if reads_frame frames e.request then printed_calls frames es else e ∷ printed_calls (frames_after frames e) es
