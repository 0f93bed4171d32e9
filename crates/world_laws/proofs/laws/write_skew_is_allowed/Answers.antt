use Rattle.world_laws.proofs.WriteSkew.{write_skew_is_allowed}
use Rattle.world_laws.proofs.laws.write_skew_is_allowed.Goals as goal

pub returns : goal.returns
returns c = write_skew_is_allowed
