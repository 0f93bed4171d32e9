use Rattle.world_laws.proofs.WovenApart.{clean_histories_are_woven}
use Rattle.world_laws.proofs.laws.clean_histories_are_woven.Goals as goal

pub returns : goal.returns
returns c = clean_histories_are_woven
