use Rattle.lang_limits.proofs.Lesser.{least_is_least}
use Rattle.lang_limits.proofs.laws.least_is_least.Goals as goal

pub returns : goal.returns
returns c = least_is_least
