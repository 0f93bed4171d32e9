use Rattle.std.proofs.Common.{◌∙◌, ap, sym, Some, [], ◌∷◌}
use Rattle.snap_api.specs.declared.data.Request.TheVariants as request
use Rattle.play_run.specs.declared.write_lines.Stop.TheVariants as stop
use Rattle.lang_script.specs.StepCalls.{of_actor}
use Rattle.play_run.specs.RunPromise.{job_style, job_functions}
use Rattle.play_run.proofs.Sequences.{runs_unmade}
use Rattle.play_run.proofs.calls.run_write.Goals as goal

pub returns-clause-runs : goal.returns-clause-runs
returns-clause-runs g c frame r p keeps h is =
    c.run_single.ensures.runs frame r p keeps h
    (is ∙ ap (λ v. Some (request.Write c.args.name c.args.object v)) (sym c.in-Ok.ensures.same))

pub returns-in_default-clause-runs : goal.returns-in_default-clause-runs
returns-in_default-clause-runs g c frame r p keeps h is =
    runs_unmade (job_style c.args.actor.job.now c.args.actor.flags) (job_functions c.args.actor.job.now)
    c.args.actor.number frame _ r stop.NoMemory (of_actor c.args.actor.number p ∷ []) h
