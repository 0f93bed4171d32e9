use Rattle.play_threads.proofs.Texts.{text_tells}
use Rattle.play_threads.proofs.laws.woven_text_tells_its_history.Goals as goal

pub returns : goal.returns
returns c = text_tells
