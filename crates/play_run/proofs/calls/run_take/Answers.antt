use Rattle.std.proofs.Common.{inr, refl, ◌∙◌, ap, Some, cond, List, [], ℕ, append-nil}
use Rattle.std.specs.Str.{bytes_eq}
use Rattle.lang_script.specs.NamesInMemory.{number_in}
use Rattle.play_run.specs.RunPromise.{job_style, job_functions}
use Rattle.play_run.specs.declared.write_lines.Stop.TheVariants as stop
use Rattle.play_run.proofs.RunParts.{ran_take, stopped_take}
use Rattle.play_run.proofs.calls.run_take.Goals as goal

pub returns-in-Ok-put-clause-runs : goal.returns-in-Ok-put-clause-runs
returns-in-Ok-put-clause-runs g c frame r kind parent h is =
    ran_take (job_style c.args.actor.job.now c.args.actor.flags) (job_functions c.args.actor.job.now)
    c.args.actor.number frame r c.args.name.now kind parent c.args.request c.in-Ok.reply _ _ tt h is
    (c.in-Ok.ensures.says r.standing.world h.facts.world_stands).all (c.in-Ok.ensures.reply r.standing.world
    h.facts.world_stands) (c.in-Ok.ensures.left r.standing.world h.facts.world_stands)
    (c.in-Ok.ensures.log r.standing.world h.facts.world_stands) refl
    (λ other. c.in-Ok-put.ensures.put other
    ∙ ap (λ (b : List ℕ). cond (bytes_eq b other) (Some c.number_taken.result)
    (number_in c.args.memory.now.names other)) c.bytes.ensures
    ∙ ap (λ (n : ℕ). cond (bytes_eq c.args.name.now other) (Some n) (number_in c.args.memory.now.names other))
    c.number_taken.ensures)

pub returns-clause-runs : goal.returns-clause-runs
returns-clause-runs g c frame r kind parent h is =
    stopped_take (job_style c.args.actor.job.now c.args.actor.flags) (job_functions c.args.actor.job.now)
    c.args.actor.number frame r c.args.name.now kind parent c.args.request _ _ c.in-Err.stop h is
    (c.in-Err.ensures.says r.standing.world h.facts.world_stands).part (c.in-Err.ensures.stops r.standing.world
    h.facts.world_stands)

pub returns-in-Ok-clause-runs : goal.returns-in-Ok-clause-runs
returns-in-Ok-clause-runs g c frame r kind parent h is =
    stopped_take (job_style c.args.actor.job.now c.args.actor.flags) (job_functions c.args.actor.job.now)
    c.args.actor.number frame r c.args.name.now kind parent c.args.request _ _ stop.NoMemory h is
    (_, [], append-nil _, (c.in-Ok.ensures.says r.standing.world h.facts.world_stands).all)
    (inr (c.in-Ok.ensures.log r.standing.world h.facts.world_stands))
