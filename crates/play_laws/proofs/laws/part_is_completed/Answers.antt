use Rattle.play_laws.proofs.Rests.{part_is_completed, printed_part_is_completed}
use Rattle.play_laws.proofs.laws.part_is_completed.Goals as goal

pub returns-clause-part : goal.returns-clause-part
returns-clause-part c = part_is_completed

pub returns-clause-printed : goal.returns-clause-printed
returns-clause-printed c = printed_part_is_completed
