use Rattle.std.proofs.Common.{ap, ◌++◌}
use Rattle.snap_api.proofs.Valid.{shaped_start}
use Rattle.snap_api.specs.World.{start}
use Rattle.lang_script.specs.StepCalls.{script_parts}
use Rattle.play_run.specs.RunPromise.{job_titles, job_functions}
use Rattle.play_run.proofs.Written.{says_same}
use Rattle.trace_lines.specs.ProgramLine.{program_line}
use Rattle.trace_play.proofs.Runs.{only_global, logged, text_is}
use Rattle.trace_play.proofs.top.trace_input.Goals as goal

pub run_script-requires : goal.run_script-requires
run_script-requires g c = record {
  start = c.new-world.ensures.stands (start 0) c.requires (shaped_start 0) only_global;
}

pub tell-requires : goal.tell-requires
tell-requires g c =
    let job = c.args.job.now in
    (logged (job_titles job) (job_functions job) (script_parts job.script.actors.items job.script.forms.items) _ _ _
    c.new-world.ensures.log c.into_parts-calls.ensures.log c.in-Ok.ensures.log).0

pub returns-clause-says : goal.returns-clause-says
returns-clause-says g c =
    let job = c.args.job.now in
    let t = job_titles job in
    let fs = job_functions job in
    let parts = script_parts job.script.actors.items job.script.forms.items in
    let printed = (logged t fs parts _ _ _ c.new-world.ensures.log c.into_parts-calls.ensures.log c.in-Ok.ensures.log).1 in
    says_same c.tell.result _ _ _ _
    (ap (λ l. program_line t.states fs t.actors c.args.bytes.now ++ l) (text_is t fs parts _ printed))
    c.tell.ensures.says
