use Rattle.text_laws.proofs.PlacedWeaves.{offsets_change_no_output}
use Rattle.text_laws.proofs.laws.offsets_change_no_output.Goals as goal

pub returns : goal.returns
returns c = offsets_change_no_output
