use Rattle.std.proofs.lemmas.Int.{to_z-of_z}
use Rattle.std.specs.Int.{w64}
use Rattle.std.proofs.Common.{rules, ◌∙◌, ap, sym, Some, [], ◌∷◌}
use Rattle.snap_api.specs.declared.data.Request.TheVariants as request
use Rattle.lang_script.specs.StepCalls.{Read, Write, WriteSum, Apply, Dispose, call_parts}
use Rattle.play_steps.specs.PartLists.{parts_of}
use Rattle.play_run.specs.RunPromise.{job_style, job_functions}
use Rattle.play_run.proofs.Sequences.{runs_same}
use Rattle.play_run.proofs.calls.run_call.Goals as goal

pub returns-in-Take-clause-runs : goal.returns-in-Take-clause-runs
returns-in-Take-clause-runs g c frame r h =
    runs_same (job_style c.args.actor.job.now c.args.actor.flags) (job_functions c.args.actor.job.now)
    c.args.actor.number frame _ _ r c.run_take.result _ _
    (ap (λ f. parts_of c.args.actor.number (call_parts f)) (sym c.in-Take.is))
    (c.run_take.ensures.runs frame r c.in-Take.kind c.in-Take.parent h
    (ap (λ n. Some (request.Take n c.in-Take.kind)) (sym (c.number_of-parent.ensures r.notes.names h.named))))

pub returns-in-Read-clause-runs : goal.returns-in-Read-clause-runs
returns-in-Read-clause-runs g c frame r h =
    runs_same (job_style c.args.actor.job.now c.args.actor.flags) (job_functions c.args.actor.job.now)
    c.args.actor.number frame _ _ r c.run_single.result _ _
    (ap (λ f. parts_of c.args.actor.number (call_parts f)) (sym c.in-Read.is))
    (c.run_single.ensures.runs frame r (Read c.in-Read.snapshot c.in-Read.object) tt h
    (ap (λ n. Some (request.Read n c.in-Read.object)) (sym (c.number_of-name.ensures r.notes.names h.named))))

pub returns-in-Write-clause-runs : goal.returns-in-Write-clause-runs
returns-in-Write-clause-runs g c frame r h =
    runs_same (job_style c.args.actor.job.now c.args.actor.flags) (job_functions c.args.actor.job.now)
    c.args.actor.number frame _ _ r c.run_write.result _ _
    (ap (λ f. parts_of c.args.actor.number (call_parts f)) (sym c.in-Write.is))
    (c.run_write.ensures.runs frame r (Write c.in-Write.snapshot c.in-Write.object c.in-Write.value) tt h
    (ap (λ n. Some (request.Write n c.in-Write.object c.in-Write.value))
    (sym (c.number_of-name-in-Write.ensures r.notes.names h.named))))

pub returns-in-Add-clause-runs : goal.returns-in-Add-clause-runs
returns-in-Add-clause-runs g c frame r h =
    let fits = to_z-of_z w64 c.in-Add.amount (search rules) in
    runs_same (job_style c.args.actor.job.now c.args.actor.flags) (job_functions c.args.actor.job.now)
    c.args.actor.number frame _ _ r c.run_add.result _ _
    (ap (λ z. parts_of c.args.actor.number
    (Read c.in-Add.snapshot c.in-Add.object ∷ WriteSum c.in-Add.snapshot c.in-Add.object z ∷ [])) fits
    ∙ ap (λ f. parts_of c.args.actor.number (call_parts f)) (sym c.in-Add.is))
    (c.run_add.ensures.runs frame r c.in-Add.snapshot h (sym (c.number_of-name-in-Add.ensures r.notes.names h.named)))

pub returns-in-Apply-clause-runs : goal.returns-in-Apply-clause-runs
returns-in-Apply-clause-runs g c frame r h =
    runs_same (job_style c.args.actor.job.now c.args.actor.flags) (job_functions c.args.actor.job.now)
    c.args.actor.number frame _ _ r c.run_single-in-Apply.result _ _
    (ap (λ f. parts_of c.args.actor.number (call_parts f)) (sym c.in-Apply.is))
    (c.run_single-in-Apply.ensures.runs frame r (Apply c.in-Apply.snapshot) tt h
    (ap (λ n. Some (request.Apply n)) (sym (c.number_of-name-in-Apply.ensures r.notes.names h.named))))

pub returns-in-Dispose-clause-runs : goal.returns-in-Dispose-clause-runs
returns-in-Dispose-clause-runs g c frame r h =
    runs_same (job_style c.args.actor.job.now c.args.actor.flags) (job_functions c.args.actor.job.now)
    c.args.actor.number frame _ _ r c.run_single-in-Dispose.result _ _
    (ap (λ f. parts_of c.args.actor.number (call_parts f)) (sym c.in-Dispose.is))
    (c.run_single-in-Dispose.ensures.runs frame r (Dispose c.in-Dispose.snapshot) tt h
    (ap (λ n. Some (request.Dispose n)) (sym (c.number_of-name-in-Dispose.ensures r.notes.names h.named))))
