use Rattle.world_laws.proofs.SerialHistories.{clean_history_is_serial}
use Rattle.world_laws.proofs.laws.clean_history_is_serial.Goals as goal

pub returns : goal.returns
returns g c = clean_history_is_serial g.P.Policy.rules g.met.P.Policy.merge_keeps_type
