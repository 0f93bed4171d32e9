use Rattle.compose_model.proofs.SmallPrograms.{examples}
use Rattle.compose_model.proofs.examples.the_examples_hold.Goals as goal

pub returns : goal.returns
returns c = examples
