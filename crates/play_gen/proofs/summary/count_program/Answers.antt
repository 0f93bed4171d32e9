use Rattle.std.proofs.Common.{◌≡◌, ◌∙◌, [], None, ap, sym, subst}
use Rattle.lang_ast.specs.SyntaxView.{functions_view}
use Rattle.lang_ast.specs.Programs.{Program, program_view, functions_of}
use Rattle.lang_ast.specs.declared.program.Program.{Program as declared}
use Rattle.lang_checks.specs.ProgramFaults.{program_faults}
use Rattle.lang_script.specs.Scripts.{actors_of}
use Rattle.lang_script.specs.StepCalls.{script_parts}
use Rattle.play_run.specs.RunOutput.{first_run}
use Rattle.play_run.proofs.Openings.{program-fits, opened_facts}
use Rattle.play_gen.specs.GeneratedScript.{generated_script}
use Rattle.play_gen.specs.Tallies.{run_counted}
use Rattle.play_gen.specs.Counting.{parts_counted}
use Rattle.play_gen.proofs.CountedParts.{run_counted_is}
use Rattle.play_gen.proofs.summary.count_program.Goals as goal

pub returns : goal.returns
returns g c =
    let p = c.args.program.now in
    let states = p.states.items in
    let functions = functions_view p.functions.items in
    let script = generated_script c.args.number c.args.size in
    let parts = script_parts (actors_of script) script in
    let memory = c.in_ok-memory.ensures in
    let fit = program-fits (program_view p)
    (subst (λ (q : declared). program_faults (program_view q) ≡ []) memory.program
    memory.composition.checked.fine) in
    let facts = opened_facts {functions = functions} {stands = g.V.Versions.stands} {world = c.args.world.now}
    {kept = c.in_ok-memory.memory.composition} 0 states None fit c.requires.opened memory.composition
    (ap functions_of memory.program) in
    let counts = c.in_ok-counted.ensures functions (first_run states None) facts in
    counts.counted
    ∙ ap (λ t. parts_counted functions t (first_run states None) parts) c.new-tally.ensures
    ∙ sym (run_counted_is states functions None parts)
    ∙ ap (λ (q : Program). run_counted q.states q.functions parts) c.requires.program
