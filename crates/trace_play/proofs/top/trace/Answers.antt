use Rattle.std.proofs.Common.{refl, sym, subst, false, ap, ◌∙◌, ◌++◌}
use Rattle.lang_script.specs.StepCalls.{script_parts}
use Rattle.play_core.specs.Promise.{streams, exactly}
use Rattle.play_core.specs.declared.top.Status.{Status}
use Rattle.play_core.proofs.Plays.{parsed-meets}
use Rattle.play_run.specs.RunPromise.{job_titles, job_functions}
use Rattle.play_run.proofs.Written.{says_same}
use Rattle.trace_lines.specs.ProgramLine.{program_line}
use Rattle.trace_play.specs.TraceText.{trace_text}
use Rattle.trace_play.specs.TraceOutput.{TraceMeets, trace_output}
use Rattle.trace_play.proofs.Runs.{output_is}
use Rattle.trace_play.proofs.top.trace.Goals as goal

pub returns-in-Ok-clause-meets : goal.returns-in-Ok-clause-meets
returns-in-Ok-clause-meets g c =
    let shown = streams g.S.Source.left g.S.Source.taken g.S.Source.faults g.K.Sink.written g.K.Sink.faults in
    let before = shown c.args.source.now c.args.sink.now in
    let middle = shown c.read_input.new.source c.read_input.new.sink in
    let read = c.in-Ok.ensures.parsed in
    let job = c.in-Ok.input.job in
    let lines = trace_text (job_titles job) (job_functions job)
    (script_parts job.script.actors.items job.script.forms.items) in
    subst (λ (s : Status). TraceMeets before (shown c.read_input.new.source c.trace_input.new.sink) s)
    (sym c.status_of.ensures)
    (parsed-meets false (exactly trace_output) before middle c.in-Ok.bytes.items c.in-Ok.input c.trace_input.result _ _
    read
    (λ t text. (
      trace_output c.in-Ok.bytes.items t,
      refl,
      says_same c.trace_input.result _ _ _ _
          (ap (λ bs. program_line job.program.states.items (job_functions job) job.script.actors.items bs ++ lines)
          c.deref.ensures.value ∙ output_is read.parsed.read t text) c.trace_input.ensures.says,
    ))
    c.trace_input.ensures.faults)

pub returns-in-Err-clause-meets : goal.returns-in-Err-clause-meets
returns-in-Err-clause-meets g c = c.in-Err.ensures.failed trace_output
