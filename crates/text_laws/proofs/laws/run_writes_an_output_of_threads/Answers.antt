use Rattle.text_laws.proofs.WovenRuns.{run_writes_an_output_of_threads}
use Rattle.text_laws.proofs.laws.run_writes_an_output_of_threads.Goals as goal

pub returns : goal.returns
returns c = run_writes_an_output_of_threads
