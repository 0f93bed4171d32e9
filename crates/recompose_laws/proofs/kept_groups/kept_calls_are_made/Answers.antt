use Rattle.recompose_laws.proofs.MadeCalls.{kept_calls_are_made}
use Rattle.recompose_laws.proofs.kept_groups.kept_calls_are_made.Goals as goal

pub returns : goal.returns
returns c = kept_calls_are_made
