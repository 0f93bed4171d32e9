use Rattle.recompose_laws.proofs.Numbers.{path_numbers_are_sibling_numbers}
use Rattle.recompose_laws.proofs.laws.path_numbers_are_sibling_numbers.Goals as goal

pub returns : goal.returns
returns c = path_numbers_are_sibling_numbers
