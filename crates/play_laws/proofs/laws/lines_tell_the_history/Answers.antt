use Rattle.play_laws.proofs.Weaves.{lines_tell_the_history}
use Rattle.play_laws.proofs.laws.lines_tell_the_history.Goals as goal

pub returns : goal.returns
returns c = lines_tell_the_history
