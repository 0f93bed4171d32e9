use Rattle.text_laws.proofs.AcceptedTexts.{run_accepts_texts_of_threads}
use Rattle.text_laws.proofs.laws.run_accepts_texts_of_threads.Goals as goal

pub returns : goal.returns
returns c = run_accepts_texts_of_threads
