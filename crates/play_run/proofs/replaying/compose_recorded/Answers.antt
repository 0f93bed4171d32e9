use Rattle.play_run.proofs.GivenReads.{agrees_with_rest}
use Rattle.play_run.proofs.replaying.compose_recorded.Goals as goal

pub returns-clause-frame : goal.returns-clause-frame
returns-clause-frame c =
    let frame = c.compose_in-composed.ensures.frame in
    let reads = c.args.memory.now.reads in
    record {
      told = λ k m h recorded. frame.told k m h (agrees_with_rest reads m recorded);
      left = λ k m h recorded. frame.left k m h (agrees_with_rest reads m recorded);
      calls = λ k m h recorded. frame.calls k m h (agrees_with_rest reads m recorded);
      program = frame.program;
    }
