use Rattle.std.proofs.Common.{◌++◌, ◌∷◌, [], sym, ap, None, Err}
use Rattle.lang_script.specs.StepCalls.{BeginFrame, EndFrame, calls_parts}
use Rattle.play_run.specs.RunOutput.{parts_after}
use Rattle.play_steps.specs.PartLists.{parts_of}
use Rattle.play_run.specs.RunPromise.{job_style, job_functions}
use Rattle.play_steps.proofs.PartsAdded.{parts_append}
use Rattle.play_run.proofs.Sequences.{runs_stopped, runs_then, runs_same}
use Rattle.play_run.proofs.frame.run_frame.Goals as goal

pub returns-in-Err-clause-runs : goal.returns-in-Err-clause-runs
returns-in-Err-clause-runs g c r h =
    runs_stopped (job_style c.args.actor.job.now c.args.actor.flags) (job_functions c.args.actor.job.now)
    c.args.actor.number {world' = c.begin_frame.new.world} {memory' = c.begin_frame.new.memory} None None _ _ r
    c.in-Err.stop c.in-Err.stop
    (parts_of c.args.actor.number (BeginFrame ∷ []))
    (parts_of c.args.actor.number (calls_parts c.args.during.now ++ EndFrame ∷ []))
    (record { says = c.in-Err.ensures.says r h; left = tt; stops = c.in-Err.ensures.stops r h })

pub returns-in-Ok-run_calls-clause-runs : goal.returns-in-Ok-run_calls-clause-runs
returns-in-Ok-run_calls-clause-runs g c r h =
    let t = job_style c.args.actor.job.now c.args.actor.flags in
    let fs = job_functions c.args.actor.job.now in
    let a = c.args.actor.number in
    let calls = parts_of a (calls_parts c.args.during.now) in
    let begun = c.in-Ok.ensures.left r h in
    let after_take = parts_after fs r (parts_of a (BeginFrame ∷ [])) in
    let second = c.in-Ok-run_calls.ensures.runs c.in-Ok.frame after_take begun in
    let third = c.end_frame.ensures.runs (parts_after fs after_take calls) second.left in
    runs_same t fs a None _ _ r c.end_frame.result
    (parts_of a (BeginFrame ∷ []) ++ (calls ++ parts_of a (EndFrame ∷ []))) _
    (ap (λ l. parts_of a (BeginFrame ∷ []) ++ l) (sym (parts_append a (calls_parts c.args.during.now) (EndFrame ∷ []))))
    (runs_then t fs a {world' = c.begin_frame.new.world} {memory' = c.begin_frame.new.memory} c.in-Ok.frame None _
    (g.K.Sink.written c.begin_frame.new.sink) _ r (tt {0}) c.end_frame.result (parts_of a (BeginFrame ∷ []))
    (calls ++ parts_of a (EndFrame ∷ []))
    (record { says = record { all = (c.in-Ok.ensures.says r h).all; part = tt }; left = begun; stops = tt })
    (runs_then t fs a {world' = c.run_calls.new.world} {memory' = c.run_calls.new.memory} c.in-Ok.frame None
    (g.K.Sink.written c.begin_frame.new.sink) (g.K.Sink.written c.run_calls.new.sink) _ after_take tt
    c.end_frame.result calls (parts_of a (EndFrame ∷ [])) second third))

pub returns-in-Err-run_calls-clause-runs : goal.returns-in-Err-run_calls-clause-runs
returns-in-Err-run_calls-clause-runs g c r h =
    let t = job_style c.args.actor.job.now c.args.actor.flags in
    let fs = job_functions c.args.actor.job.now in
    let a = c.args.actor.number in
    let calls = parts_of a (calls_parts c.args.during.now) in
    let begun = c.in-Ok.ensures.left r h in
    let after_take = parts_after fs r (parts_of a (BeginFrame ∷ [])) in
    let second = c.in-Err-run_calls.ensures.runs c.in-Ok.frame after_take begun in
    runs_same t fs a None _ _ r (Err c.in-Err-run_calls.stop)
    (parts_of a (BeginFrame ∷ []) ++ (calls ++ parts_of a (EndFrame ∷ []))) _
    (ap (λ l. parts_of a (BeginFrame ∷ []) ++ l) (sym (parts_append a (calls_parts c.args.during.now) (EndFrame ∷ []))))
    (runs_then t fs a {world' = c.begin_frame.new.world} {memory' = c.begin_frame.new.memory} c.in-Ok.frame None _
    (g.K.Sink.written c.begin_frame.new.sink) _ r (tt {0}) (Err c.in-Err-run_calls.stop)
    (parts_of a (BeginFrame ∷ [])) (calls ++ parts_of a (EndFrame ∷ []))
    (record { says = record { all = (c.in-Ok.ensures.says r h).all; part = tt }; left = begun; stops = tt })
    (runs_stopped t fs a {world' = c.run_calls.new.world} {memory' = c.run_calls.new.memory} c.in-Ok.frame None
    (g.K.Sink.written c.begin_frame.new.sink) _ after_take c.in-Err-run_calls.stop c.in-Err-run_calls.stop calls
    (parts_of a (EndFrame ∷ [])) second))
