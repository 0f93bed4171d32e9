use Rattle.lang_limits.proofs.Copies.{small_trees_stay}
use Rattle.lang_limits.proofs.laws.small_trees_stay.Goals as goal

pub returns : goal.returns
returns c = small_trees_stay
