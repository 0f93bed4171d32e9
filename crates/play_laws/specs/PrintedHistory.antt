-- Trusted: which calls of a history of several callers are printed. Each caller's open frames are its own.
use Rattle.std.specs.Prelude.{ℕ, ◌==◌, List, [], ◌∷◌, if◌then◌else◌}
use Rattle.snap_api.specs.World.{History}
use Rattle.script_lang.specs.PrintedCalls.{reads_frame, frames_after}

-- No caller has an open frame.
abbrev pub no_frames : ℕ → List ℕ
no_frames a = []

-- The open frames of each caller, by number, with those of `caller` replaced.
abbrev pub with_frames : (ℕ → List ℕ) → ℕ → List ℕ → ℕ → List ℕ
with_frames frames caller own a = if caller == a then own else frames a

-- The calls that are printed if callers have these frames open before: all except a caller's reads of the snapshots of
-- its own open frames.
abbrev pub printed_from : (ℕ → List ℕ) → History → History
printed_from frames [] = []
printed_from frames (e ∷ es) =
    if reads_frame (frames e.caller) e.request then printed_from frames es
    else e ∷ printed_from (with_frames frames e.caller (frames_after (frames e.caller) e)) es

-- The calls of a whole history that are printed.
abbrev pub printed_history : History → History
printed_history h = printed_from no_frames h

-- The frames that a caller has open after its calls, if it had these before.
abbrev pub frames_after_calls : List ℕ → History → List ℕ
frames_after_calls frames [] = frames
frames_after_calls frames (e ∷ es) =
    if reads_frame frames e.request then frames_after_calls frames es
    else frames_after_calls (frames_after frames e) es
