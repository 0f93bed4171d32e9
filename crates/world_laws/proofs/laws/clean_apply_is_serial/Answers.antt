use Rattle.world_laws.proofs.CleanApplies.{clean_apply_is_serial}
use Rattle.world_laws.proofs.laws.clean_apply_is_serial.Goals as goal

pub returns : goal.returns
returns g c = clean_apply_is_serial g.P.Policy.rules
