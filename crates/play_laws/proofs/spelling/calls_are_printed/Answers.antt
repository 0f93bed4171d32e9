use Rattle.play_laws.proofs.Prints.{call_is_printed, frame_reads_are_left_out}
use Rattle.play_laws.proofs.spelling.calls_are_printed.Goals as goal

pub returns-clause-call : goal.returns-clause-call
returns-clause-call c = call_is_printed

pub returns-clause-reads : goal.returns-clause-reads
returns-clause-reads c = frame_reads_are_left_out
