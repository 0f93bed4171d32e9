use Rattle.play_threads.proofs.Texts.{none_is_written}
use Rattle.play_threads.proofs.threads.run_threads.Goals as goal

pub returns-in_default-clause-says : goal.returns-in_default-clause-says
returns-in_default-clause-says g c = none_is_written _ c.args.job.now c.args.flags _
