use Rattle.recompose_laws.proofs.Apart.{numbers_stay_distinct}
use Rattle.recompose_laws.proofs.laws.numbers_stay_distinct.Goals as goal

pub returns : goal.returns
returns c = numbers_stay_distinct
