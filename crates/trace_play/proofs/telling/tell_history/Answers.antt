use Rattle.std.proofs.Common.{ap}
use Rattle.lang_ast.specs.Programs.{program_view, functions_of}
use Rattle.play_run.proofs.Openings.{program-fits}
use Rattle.trace_play.specs.TraceText.{initial_trace}
use Rattle.trace_play.proofs.Histories.{trace_opened}
use Rattle.trace_play.proofs.telling.tell_history.Goals as goal

pub returns-clause-says : goal.returns-clause-says
returns-clause-says g c =
    let p = c.args.job.now.program in
    let fit = program-fits (program_view p) c.args.job.now.fine in
    let new = c.in-Ok.ensures in
    c.tell_calls-done.ensures.says (initial_trace p.states.items)
    (trace_opened c.in-Ok.memory p.states.items fit new.composition (ap functions_of new.program)
    (ap (λ q. q.states.items) new.program) new.given new.reads new.last new.changed new.frames)
    c.requires
