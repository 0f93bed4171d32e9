-- Trusted: the output of a trace of a source text.
use Rattle.std.specs.Prelude.{ℕ, List, ◌++◌, false}
use Rattle.lang_forms.specs.Sources.{Source}
use Rattle.lang_script.specs.Scripts.{actors_of}
use Rattle.lang_script.specs.StepCalls.{script_parts}
use Rattle.play_core.specs.Texts.{titles}
use Rattle.play_core.specs.Promise.{Streams, TextMeets, exactly}
use Rattle.play_core.specs.declared.top.Status.{Status}
use Rattle.trace_lines.specs.ProgramLine.{program_line}
use Rattle.trace_play.specs.TraceText.{trace_text}

-- The trace of the source text `t` of an input: the line of the program with the input, and the lines of the history
-- that the steps of all actors make in the plain world, in source order.
unfoldable pub trace_output : List ℕ → Source → List ℕ
trace_output bytes t =
    program_line t.program.states t.program.functions (actors_of t.script) bytes
    ++ trace_text (titles t) t.program.functions (script_parts (actors_of t.script) t.script)

-- The promise of `trace`, between what the streams showed at its start and at its end: that of `run`, with the trace in
-- place of the lines of the run.
abbrev pub TraceMeets : Streams → Streams → Status → Type 0
TraceMeets before after result = TextMeets false (exactly trace_output) before after result
