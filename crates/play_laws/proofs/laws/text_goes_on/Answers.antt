use Rattle.play_laws.proofs.Weaves.{text_goes_on}
use Rattle.play_laws.proofs.laws.text_goes_on.Goals as goal

pub returns : goal.returns
returns c = text_goes_on
