use Rattle.recompose_laws.proofs.Walks.{walk_does_the_frame}
use Rattle.recompose_laws.proofs.laws.walk_does_the_frame.Goals as goal

pub returns : goal.returns
returns c = walk_does_the_frame
