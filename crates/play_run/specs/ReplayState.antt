-- Internal: how the state of a replay in memory represents the state of the walk along a history, and what was written.
use Rattle.std.specs.Prelude.{◌≡◌, ℕ, zero, List, [], Option, Some, None, Result, IfOk, length}
use Rattle.std.specs.Option.{option_map}
use Rattle.rt_values.specs.Maps.{Map}
use Rattle.rt_values.specs.declared.value.Value.{Value}
use Rattle.lang_ast.specs.Terms.{Func}
use Rattle.snap_policy.specs.declared.policy.BuiltIn.{BuiltIn}
use Rattle.snap_policy.specs.Table.{table}
use Rattle.snap_api.specs.declared.data.Entry.{Entry}
use Rattle.snap_api.specs.World.{World, call, last_of}
use Rattle.lang_script.specs.StepCalls.{no_notes, watcher_number}
use Rattle.script_lang.specs.Lines.{LineStyle, Standing}
use Rattle.play_laws.specs.FramesInTurn.{OpenFrame}
use Rattle.play_run.specs.CallsInFrames.{name_of, caller_of, frame_after, call_lines, standing_then}
use Rattle.play_run.specs.RunPromise.{WritesBytes}
use Rattle.play_run.specs.RecordedReads.{AgreesWith}
use Rattle.play_run.specs.RunOutput.{Run}
use Rattle.play_run.specs.RunState.{RunFacts, flat}
use Rattle.play_run.specs.declared.recorded.RecordedReads.{RecordedReads}
use Rattle.play_run.specs.declared.replaying.ReplayFrame.{ReplayFrame}
use Rattle.play_run.specs.declared.replaying.ReplayMemory.{ReplayMemory}
use Rattle.play_run.specs.declared.write_lines.Stop.{Stop}

-- The open frame that a value in memory represents.
abbrev pub as_open : ReplayFrame → OpenFrame
as_open f = record { caller = f.caller; name = f.name }

-- The open frame, if a frame is open.
abbrev pub frame_of : Option ReplayFrame → Option OpenFrame
frame_of frame = option_map as_open frame

-- The reply of a call is the plain world's.
abbrev pub IsAnswered : World BuiltIn → Entry → Type 0
IsAnswered w e = (call table w e.caller e.request).1 ≡ e.reply

-- A run without names that has made no call since this state of the walk.
abbrev pub run_from : Standing → Option ℕ → Run
run_from s frame = record { standing = s; notes = record no_notes { frame = frame }; made = []; first = s; log = None }

-- A replay has no world in memory.
abbrev pub no_world : Unit {0} → World BuiltIn → Type 0
no_world none w = Unit {0}

-- The reads that were recorded are those of the open frame so far, with the values of the watcher's last map.
abbrev pub AreFrameReads : Option OpenFrame → Option Map → List (ℕ × Value) → Type 0
AreFrameReads None last reads = reads ≡ []
AreFrameReads (Some f) last reads = (m : Map) → last ≡ Some m → AgreesWith m reads

-- The map agrees with the recorded reads, and none of them was given again.
abbrev pub IsRecordedMap : RecordedReads → Map → Type 0
IsRecordedMap reads m = (reads.given ≡ zero) × AgreesWith m reads.reads.items

-- Reads were recorded, and none of them was given again.
pub record IsRecorded (frame : Option OpenFrame) (last : Option Map) (reads : RecordedReads) : Type 0 where
  pub new : reads.given ≡ zero
  pub of_frame : AreFrameReads frame last reads.reads.items

-- The composition and the recorded reads represent this state of the walk, in which no frame is open or this one. The
-- world has one watcher.
pub record IsReplay (functions : List Func) (memory : ReplayMemory) (frame : Option OpenFrame)
    (s : Standing) : Type 0 where
  pub facts : RunFacts functions no_world tt memory.composition (caller_of frame) (name_of frame)
      (run_from s (name_of frame))
  pub recorded : IsRecorded frame (last_of s.world watcher_number) memory.reads
  pub watchers : length s.world.lasts ≡ 1

-- The lines of a call were written, and the state after the call is represented. `frame` is the open frame before the
-- call, and the result is the one after it.
pub record PlaysCall (style : LineStyle) (functions : List Func) (memory' : ReplayMemory)
    (written written' : Option (List ℕ)) (frame : Option OpenFrame) (s : Standing) (e : Entry)
    (result : Result (Option ReplayFrame) Stop) : Type 0 where
  pub says : WritesBytes written written' (flat (call_lines style functions frame s e)) result
  pub left : IfOk result (λ now. (frame_of now ≡ frame_after frame e)
      × IsReplay functions memory' (frame_of now) (standing_then functions frame s e))
