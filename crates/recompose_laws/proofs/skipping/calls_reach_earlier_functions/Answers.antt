use Rattle.recompose_laws.proofs.Meanings.{calls_reach_earlier_functions}
use Rattle.recompose_laws.proofs.skipping.calls_reach_earlier_functions.Goals as goal

pub returns : goal.returns
returns c = calls_reach_earlier_functions
