use Rattle.std.proofs.Common.{◌≡◌, rules, refl, ◌∙◌, ap, sym, Some, [], ◌∷◌, Ok, Err}
use Rattle.snap_policy.specs.Table.{table}
use Rattle.snap_api.specs.World.{call}
use Rattle.snap_api.specs.declared.data.Reply.{Reply}
use Rattle.snap_api.specs.declared.data.Request.TheVariants as request
use Rattle.lang_script.specs.StepCalls.{Read, WriteSum, of_actor, sum_request, value_read}
use Rattle.play_run.specs.RunOutput.{part_after}
use Rattle.play_run.specs.RunPromise.{job_style, job_functions}
use Rattle.play_run.proofs.RunParts.{no_sum}
use Rattle.play_run.proofs.Sequences.{runs_then, runs_stopped, runs_ok, runs_err}
use Rattle.play_run.proofs.Written.{says_none}
use Rattle.play_run.proofs.calls.run_add.Goals as goal

pub returns-in-Err-clause-runs : goal.returns-in-Err-clause-runs
returns-in-Err-clause-runs g c frame r s h is =
    runs_stopped (job_style c.args.actor.job.now c.args.actor.flags) (job_functions c.args.actor.job.now)
    c.args.actor.number frame frame _ _ r c.in-Err.stop c.in-Err.stop
    (of_actor c.args.actor.number (Read s c.args.object) ∷ [])
    (of_actor c.args.actor.number (WriteSum s c.args.object c.args.amount) ∷ [])
    (c.in-Err.ensures.runs frame r (Read s c.args.object) tt h (ap (λ n. Some (request.Read n c.args.object)) is))

pub returns-in-Ok-run_part-clause-runs : goal.returns-in-Ok-run_part-clause-runs
returns-in-Ok-run_part-clause-runs g c frame r s h is =
    let first = c.in-Ok.ensures.runs frame r (Read s c.args.object) tt h
    (ap (λ n. Some (request.Read n c.args.object)) is) in
    let told : c.sum_request.result ≡ sum_request c.args.name c.args.object c.args.amount (value_read c.in-Ok.reply) =
    search rules in
    let asks =
    ap (λ n. sum_request n c.args.object c.args.amount
    (value_read (call table r.standing.world c.args.actor.number (request.Read n c.args.object)).1)) is
    ∙ ap (λ (y : Reply). sum_request c.args.name c.args.object c.args.amount (value_read y))
    (sym (c.in-Ok.ensures.reply r.standing.world h.facts.world_stands))
    ∙ sym told ∙ c.in-Some.is in
    let second = c.in-Ok-run_part.ensures.runs frame
    (part_after (job_functions c.args.actor.job.now) r (of_actor c.args.actor.number (Read s c.args.object)))
    (WriteSum s c.args.object c.args.amount) tt first.left asks in
    runs_then (job_style c.args.actor.job.now c.args.actor.flags) (job_functions c.args.actor.job.now)
    c.args.actor.number frame frame _ _ _ r c.in-Ok.reply (Ok tt)
    (of_actor c.args.actor.number (Read s c.args.object) ∷ [])
    (of_actor c.args.actor.number (WriteSum s c.args.object c.args.amount) ∷ [])
    first (runs_ok _ c.in-Ok-run_part.field-0 (Ok tt) tt refl refl second)

pub returns-in-Some-clause-runs : goal.returns-in-Some-clause-runs
returns-in-Some-clause-runs g c frame r s h is =
    let first = c.in-Ok.ensures.runs frame r (Read s c.args.object) tt h
    (ap (λ n. Some (request.Read n c.args.object)) is) in
    let told : c.sum_request.result ≡ sum_request c.args.name c.args.object c.args.amount (value_read c.in-Ok.reply) =
    search rules in
    let asks =
    ap (λ n. sum_request n c.args.object c.args.amount
    (value_read (call table r.standing.world c.args.actor.number (request.Read n c.args.object)).1)) is
    ∙ ap (λ (y : Reply). sum_request c.args.name c.args.object c.args.amount (value_read y))
    (sym (c.in-Ok.ensures.reply r.standing.world h.facts.world_stands))
    ∙ sym told ∙ c.in-Some.is in
    let second = c.in-Err-run_part.ensures.runs frame
    (part_after (job_functions c.args.actor.job.now) r (of_actor c.args.actor.number (Read s c.args.object)))
    (WriteSum s c.args.object c.args.amount) tt first.left asks in
    runs_then (job_style c.args.actor.job.now c.args.actor.flags) (job_functions c.args.actor.job.now)
    c.args.actor.number frame frame _ _ _ r c.in-Ok.reply (Err c.in-Err-run_part.stop)
    (of_actor c.args.actor.number (Read s c.args.object) ∷ [])
    (of_actor c.args.actor.number (WriteSum s c.args.object c.args.amount) ∷ [])
    first (runs_err _ c.in-Err-run_part.stop (Err c.in-Err-run_part.stop) c.in-Err-run_part.stop refl refl second)

pub returns-clause-runs : goal.returns-clause-runs
returns-clause-runs g c frame r s h is =
    let first = c.in-Ok.ensures.runs frame r (Read s c.args.object) tt h
    (ap (λ n. Some (request.Read n c.args.object)) is) in
    let told : c.sum_request.result ≡ sum_request c.args.name c.args.object c.args.amount (value_read c.in-Ok.reply) =
    search rules in
    let asks =
    ap (λ n. sum_request n c.args.object c.args.amount
    (value_read (call table r.standing.world c.args.actor.number (request.Read n c.args.object)).1)) is
    ∙ ap (λ (y : Reply). sum_request c.args.name c.args.object c.args.amount (value_read y))
    (sym (c.in-Ok.ensures.reply r.standing.world h.facts.world_stands))
    ∙ sym told ∙ c.in-None.is in
    runs_then (job_style c.args.actor.job.now c.args.actor.flags) (job_functions c.args.actor.job.now)
    c.args.actor.number frame frame _ _ _ r c.in-Ok.reply (Ok tt)
    (of_actor c.args.actor.number (Read s c.args.object) ∷ [])
    (of_actor c.args.actor.number (WriteSum s c.args.object c.args.amount) ∷ [])
    first (no_sum (job_style c.args.actor.job.now c.args.actor.flags) (job_functions c.args.actor.job.now)
    c.args.actor.number frame (part_after (job_functions c.args.actor.job.now) r
    (of_actor c.args.actor.number (Read s c.args.object))) (WriteSum s c.args.object c.args.amount) _ tt
    first.left asks (says_none _ _))
