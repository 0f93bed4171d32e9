use Rattle.play_laws.proofs.ScriptTurns.{frames_are_in_turn}
use Rattle.play_laws.proofs.laws.frames_are_in_turn.Goals as goal

pub returns : goal.returns
returns c = frames_are_in_turn
