use Rattle.std.proofs.Common.{sym, ap, None}
use Rattle.lang_ast.specs.Programs.{functions_of, program_view}
use Rattle.lang_script.specs.StepCalls.{script_parts}
use Rattle.play_run.specs.RunOutput.{first_run, parts_after}
use Rattle.play_run.specs.RunPromise.{job_titles, job_style, job_functions}
use Rattle.play_run.specs.RunState.{IsRun}
use Rattle.play_run.proofs.Openings.{program-fits, opened}
use Rattle.play_run.proofs.RunLines.{run_text_is}
use Rattle.play_run.proofs.RunLogs.{logged_after, run_logged}
use Rattle.play_run.proofs.Stops.{script_stopped}
use Rattle.play_run.proofs.Written.{says_same, after_error}
use Rattle.play_run.proofs.steps.run_script.Goals as goal

pub returns-clause-says : goal.returns-clause-says
returns-clause-says g c =
    let p = c.args.job.now.program in
    let parts = script_parts c.args.job.now.script.actors.items c.args.job.now.script.forms.items in
    let fit = program-fits (program_view p) c.args.job.now.fine in
    says_same c.run_do_forms-done.result _ _ _ _
    (sym (run_text_is (job_style c.args.job.now c.args.flags) (job_functions c.args.job.now)
    (g.V.Versions.log c.args.world.now) parts))
    (c.run_do_forms-done.ensures.runs (first_run p.states.items (g.V.Versions.log c.args.world.now))
    (opened 0 p.states.items (g.V.Versions.log c.args.world.now) fit c.set_up_world.ensures.log
    c.in-Ok.ensures.opened c.in-Ok-new.ensures.composition (ap functions_of c.in-Ok-new.ensures.program)
    c.in-Ok-new.ensures.names)).says

pub returns-clause-log : goal.returns-clause-log
returns-clause-log g c =
    let p = c.args.job.now.program in
    let parts = script_parts c.args.job.now.script.actors.items c.args.job.now.script.forms.items in
    let log = g.V.Versions.log c.args.world.now in
    let fit = program-fits (program_view p) c.args.job.now.fine in
    let ran = (c.run_do_forms-done.ensures.runs (first_run p.states.items log)
    (opened 0 p.states.items log fit c.set_up_world.ensures.log c.in-Ok.ensures.opened
    c.in-Ok-new.ensures.composition (ap functions_of c.in-Ok-new.ensures.program) c.in-Ok-new.ensures.names)).left in
    logged_after (λ (h : IsRun (job_functions c.args.job.now) g.V.Versions.stands g.V.Versions.log c.run_do_forms-done.new.world c.run_do_forms-done.new.memory 0 None (parts_after (job_functions c.args.job.now) (first_run p.states.items log) parts)). run_logged (job_titles c.args.job.now) (job_functions c.args.job.now) parts log (g.V.Versions.log c.run_do_forms-done.new.world) h.logged) c.run_do_forms-done.result ran

pub returns-clause-stops : goal.returns-clause-stops
returns-clause-stops g c =
    let p = c.args.job.now.program in
    let parts = script_parts c.args.job.now.script.actors.items c.args.job.now.script.forms.items in
    let log = g.V.Versions.log c.args.world.now in
    let fit = program-fits (program_view p) c.args.job.now.fine in
    let ran = (c.run_do_forms-done.ensures.runs (first_run p.states.items log)
    (opened 0 p.states.items log fit c.set_up_world.ensures.log c.in-Ok.ensures.opened
    c.in-Ok-new.ensures.composition (ap functions_of c.in-Ok-new.ensures.program) c.in-Ok-new.ensures.names)).stops in
    after_error c.run_do_forms-done.result
    (script_stopped (job_style c.args.job.now c.args.flags) (job_functions c.args.job.now) parts log
    (g.V.Versions.log c.run_do_forms-done.new.world) _ _) ran
