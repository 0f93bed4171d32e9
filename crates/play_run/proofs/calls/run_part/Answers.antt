use Rattle.std.proofs.Common.{refl}
use Rattle.play_run.specs.RunPromise.{job_style, job_functions}
use Rattle.play_run.proofs.RunParts.{ran_single}
use Rattle.play_run.proofs.calls.run_part.Goals as goal

pub returns-clause-runs : goal.returns-clause-runs
returns-clause-runs g c frame r p keeps h is =
    ran_single (job_style c.args.actor.job.now c.args.actor.flags) (job_functions c.args.actor.job.now)
    c.args.actor.number frame r p c.args.request _ _ c.make_call.result keeps h is
    (c.make_call.ensures.says r.standing.world h.facts.world_stands)
    (c.make_call.ensures.left r.standing.world h.facts.world_stands)
    (c.make_call.ensures.log r.standing.world h.facts.world_stands)
    (c.make_call.ensures.stops r.standing.world h.facts.world_stands) refl refl
