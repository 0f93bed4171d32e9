use Rattle.std.proofs.Common.{None}
use Rattle.play_run.proofs.replaying.ReplayMemory.new.Goals as goal

pub returns-clause-composition : goal.returns-clause-composition
returns-clause-composition c = c.in_ok-composition.ensures.before None
