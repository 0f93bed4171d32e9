use Rattle.node_laws.proofs.GivenNumbers.{numbers_are_not_given_again}
use Rattle.node_laws.proofs.laws.numbers_are_not_given_again.Goals as goal

pub returns : goal.returns
returns c = numbers_are_not_given_again
