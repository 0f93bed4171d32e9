use Rattle.lang_ast.specs.Programs.{program_view}
use Rattle.play_run.proofs.Openings.{program-fits}
use Rattle.play_threads.proofs.Texts.{calls_in_turn, part_is_written, all_is_written, whole_part}
use Rattle.play_threads.proofs.threads.write_calls.Goals as goal

pub replay-requires-clause-turn : goal.replay-requires-clause-turn
replay-requires-clause-turn g c =
    let program = c.args.job.now.program in
    calls_in_turn c.args.job.now c.args.end
    (program-fits (program_view program) c.args.job.now.fine)
    c.requires.fine c.requires.calls

pub returns-then-short-clause-says : goal.returns-then-short-clause-says
returns-then-short-clause-says g c =
    part_is_written c.args.job.now c.args.flags c.args.end c.requires.calls _ _ _
    (whole_part _ _ _ c.in-Ok.ensures.says.all)

pub returns-else-short-clause-says : goal.returns-else-short-clause-says
returns-else-short-clause-says g c =
    all_is_written c.args.job.now c.args.flags c.args.end c.requires.calls _ _ _ c.if-short.false
    c.in-Ok.ensures.says.all

pub returns-in-Err-clause-says : goal.returns-in-Err-clause-says
returns-in-Err-clause-says g c =
    part_is_written c.args.job.now c.args.flags c.args.end c.requires.calls _ _ _ c.in-Err.ensures.says.part
