use Rattle.std.proofs.Common.{subst, sym, Option}
use Rattle.play_run.specs.RunPromise.{job_style, job_functions}
use Rattle.play_run.specs.CallsInFrames.{IsInTurn}
use Rattle.play_run.specs.ReplayState.{frame_of, IsAnswered, IsReplay, PlaysCall}
use Rattle.play_run.specs.declared.replaying.ReplayFrame.{ReplayFrame}
use Rattle.play_run.proofs.replaying.replay_call.Goals as goal

pub returns-in-Some-clause-plays : goal.returns-in-Some-clause-plays
returns-in-Some-clause-plays g c s =
    let fs = job_functions c.args.job.now in
    let e = c.args.call in
    subst (λ (o : Option ReplayFrame). IsReplay fs c.args.memory.now (frame_of o) s → IsAnswered s.world e
    → IsInTurn (frame_of o) e →
    PlaysCall (job_style c.args.job.now c.args.flags) fs c.replay_inside.new.memory (g.K.Sink.written c.args.sink.now)
    (g.K.Sink.written c.replay_inside.new.sink) (frame_of o) s e c.replay_inside.result)
    (sym c.in-Some.is) (c.replay_inside.ensures.plays s)

pub returns-in-None-clause-plays : goal.returns-in-None-clause-plays
returns-in-None-clause-plays g c s =
    let fs = job_functions c.args.job.now in
    let e = c.args.call in
    subst (λ (o : Option ReplayFrame). IsReplay fs c.args.memory.now (frame_of o) s → IsAnswered s.world e
    → IsInTurn (frame_of o) e →
    PlaysCall (job_style c.args.job.now c.args.flags) fs c.replay_outside.new.memory (g.K.Sink.written c.args.sink.now)
    (g.K.Sink.written c.replay_outside.new.sink) (frame_of o) s e c.replay_outside.result)
    (sym c.in-None.is) (λ h legal turn. c.replay_outside.ensures.plays s h legal)
