use Rattle.std.proofs.Common.{subst, sym, Option}
use Rattle.play_run.specs.RunPromise.{job_titles, job_functions}
use Rattle.play_run.specs.ReplayState.{frame_of, IsAnswered}
use Rattle.play_run.specs.declared.replaying.ReplayFrame.{ReplayFrame}
use Rattle.trace_play.specs.TraceState.{IsTrace, TellsCall}
use Rattle.trace_play.proofs.telling.tell_call.Goals as goal

pub returns-in-Some-clause-tells : goal.returns-in-Some-clause-tells
returns-in-Some-clause-tells g c t =
    let fs = job_functions c.args.job.now in
    let e = c.args.call in
    subst (λ (o : Option ReplayFrame). IsTrace fs c.args.memory.now (frame_of o) t → IsAnswered t.at.world e →
    TellsCall (job_titles c.args.job.now) fs c.tell_inside.new.memory (g.K.Sink.written c.args.sink.now)
    (g.K.Sink.written c.tell_inside.new.sink) (frame_of o) t e c.tell_inside.result)
    (sym c.in-Some.is) (c.tell_inside.ensures.tells t)

pub returns-in-None-clause-tells : goal.returns-in-None-clause-tells
returns-in-None-clause-tells g c t =
    let fs = job_functions c.args.job.now in
    let e = c.args.call in
    subst (λ (o : Option ReplayFrame). IsTrace fs c.args.memory.now (frame_of o) t → IsAnswered t.at.world e →
    TellsCall (job_titles c.args.job.now) fs c.tell_outside.new.memory (g.K.Sink.written c.args.sink.now)
    (g.K.Sink.written c.tell_outside.new.sink) (frame_of o) t e c.tell_outside.result)
    (sym c.in-None.is) (c.tell_outside.ensures.tells t)
