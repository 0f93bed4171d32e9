use Rattle.world_laws.proofs.Watching.{watcher_misses_nothing, watcher_hears_nothing_twice}
use Rattle.world_laws.proofs.laws.watcher_misses_nothing.Goals as goal

pub returns-clause-misses_nothing : goal.returns-clause-misses_nothing
returns-clause-misses_nothing g c = watcher_misses_nothing g.P.Policy.rules

pub returns-clause-nothing_twice : goal.returns-clause-nothing_twice
returns-clause-nothing_twice g c = watcher_hears_nothing_twice g.P.Policy.rules
