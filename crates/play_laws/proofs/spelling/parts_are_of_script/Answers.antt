use Rattle.play_laws.proofs.Callers.{parts_are_of_script}
use Rattle.play_laws.proofs.spelling.parts_are_of_script.Goals as goal

pub returns : goal.returns
returns c = parts_are_of_script
