use Rattle.lang_limits.proofs.Lesser.{no_least}
use Rattle.lang_limits.proofs.laws.no_least_no_offset.Goals as goal

pub returns : goal.returns
returns c = no_least
