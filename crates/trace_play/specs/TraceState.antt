-- Internal: how the memory of a trace represents the state of the walk along a history, and what was written.
use Rattle.std.specs.Prelude.{◌≡◌, ℕ, List, [], ◌∷◌, Bool, true, Option, Some, None, Result, IfOk, length, if◌then◌else◌}
use Rattle.rt_groups.specs.PreorderGroups.{preorder}
use Rattle.lang_ast.specs.Terms.{Func}
use Rattle.snap_api.specs.declared.data.Entry.{Entry}
use Rattle.script_lang.specs.Lines.{Titles}
use Rattle.script_lang.specs.PrintedCalls.{reads_frame}
use Rattle.play_laws.specs.FramesInTurn.{OpenFrame}
use Rattle.play_run.specs.ReplayState.{frame_of, IsReplay}
use Rattle.play_run.specs.RunPromise.{WritesBytes}
use Rattle.play_run.specs.RunState.{flat}
use Rattle.play_run.specs.declared.replaying.ReplayFrame.{ReplayFrame}
use Rattle.play_run.specs.declared.write_lines.Stop.{Stop}
use Rattle.trace_lines.specs.TraceLines.{FrameHead}
use Rattle.trace_play.specs.TraceText.{TraceStanding, trace_lines_at, trace_next}
use Rattle.trace_play.specs.declared.memory.TraceMemory.{TraceMemory}

-- The members that a frame line begins with: the number of the frame, its actor and its snapshot, what changed and what it
-- owes.
abbrev pub frame_head : ℕ → List ℕ → ℕ → List ℕ → List ℕ → FrameHead
frame_head number actor snapshot changed owed = record {
  frame = number;
  actor = actor;
  snapshot = snapshot;
  changed = changed;
  owed = owed;
}

-- The memory represents this state of the walk, in which no frame is open or this one.
pub record IsTrace (functions : List Func) (memory : TraceMemory) (frame : Option OpenFrame) (t : TraceStanding)
    : Type 0 where
  pub replay : IsReplay functions memory.replay frame t.at
  pub count : memory.frames ≡ t.count
  pub changed : memory.changed ≡ t.changed
  pub last : memory.last.groups ≡ preorder 0 t.at.kept.trail
  pub objects : length t.at.world.objects ≡ length memory.replay.composition.program.now.states.items

-- The snapshots of open frames: at most one frame is open.
abbrev pub names_open : Option OpenFrame → List ℕ
names_open None = []
names_open (Some f) = f.name ∷ []

-- Whether a call reads the snapshot of the open frame.
abbrev pub reads_open : Option OpenFrame → Entry → Bool
reads_open frame e = reads_frame (names_open frame) e.request

-- A read of the snapshot of the open frame is a call of the frame's caller.
abbrev pub IsOwnRead : Option OpenFrame → Entry → Type 0
IsOwnRead None e = Unit {0}
IsOwnRead (Some f) e = reads_open (Some f) e ≡ true → e.caller ≡ f.caller

module _ (titles : Titles) (functions : List Func) where
  -- The lines of a call: none if it reads the snapshot of the open frame.
  abbrev pub trace_call_lines : Option OpenFrame → TraceStanding → Entry → List (List ℕ)
  trace_call_lines frame t e = if reads_open frame e then [] else trace_lines_at titles functions t e

  -- The state of the walk after a call. A read of the snapshot of the open frame changes nothing.
  abbrev pub trace_then : Option OpenFrame → TraceStanding → Entry → TraceStanding
  trace_then frame t e = if reads_open frame e then t else trace_next titles functions t e

  -- The lines of a call were written, and the state after the call is represented. `frame` is the open frame before the
  -- call, and the result is the one after it.
  pub record TellsCall (memory' : TraceMemory) (written written' : Option (List ℕ)) (frame : Option OpenFrame)
      (t : TraceStanding) (e : Entry) (result : Result (Option ReplayFrame) Stop) : Type 0 where
    pub says : WritesBytes written written' (flat (trace_call_lines frame t e)) result
    pub left : IfOk result (λ now. IsTrace functions memory' (frame_of now) (trace_then frame t e))
