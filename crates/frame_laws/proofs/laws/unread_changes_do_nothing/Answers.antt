use Rattle.frame_laws.proofs.IdleFrames.{unread_changes_do_nothing}
use Rattle.frame_laws.proofs.laws.unread_changes_do_nothing.Goals as goal

pub returns : goal.returns
returns c = unread_changes_do_nothing
