use Rattle.std.proofs.Common.{ap}
use Rattle.lang_ast.specs.Programs.{functions_of, program_view}
use Rattle.script_lang.specs.Lines.{initial_standing}
use Rattle.play_run.proofs.Openings.{program-fits}
use Rattle.play_run.proofs.Replays.{replay_opened}
use Rattle.play_run.proofs.replaying.replay.Goals as goal

pub returns-clause-says : goal.returns-clause-says
returns-clause-says g c =
    let p = c.args.job.now.program in
    let fit = program-fits (program_view p) c.args.job.now.fine in
    c.replay_calls-done.ensures.says (initial_standing p.states.items)
    (replay_opened c.in-Ok.memory p.states.items fit c.in-Ok.ensures.composition
    (ap functions_of c.in-Ok.ensures.program) c.in-Ok.ensures.given c.in-Ok.ensures.reads)
    c.requires.legal c.requires.turn
