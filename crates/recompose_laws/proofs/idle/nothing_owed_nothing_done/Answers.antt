use Rattle.recompose_laws.proofs.Idles.{idle_frame}
use Rattle.recompose_laws.proofs.idle.nothing_owed_nothing_done.Goals as goal

pub returns : goal.returns
returns c = idle_frame
