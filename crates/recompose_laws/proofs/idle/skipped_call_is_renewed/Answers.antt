use Rattle.recompose_laws.proofs.Skipped.{skipped_call_is_renewed}
use Rattle.recompose_laws.proofs.idle.skipped_call_is_renewed.Goals as goal

pub returns : goal.returns
returns c = skipped_call_is_renewed
