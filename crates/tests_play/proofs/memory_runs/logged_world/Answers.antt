use Rattle.snap_api.specs.World.{start}
use Rattle.snap_api.proofs.Valid.{shaped_start}
use Rattle.tests_play.proofs.NewWorlds.{only_global}
use Rattle.tests_play.proofs.memory_runs.logged_world.Goals as goal

pub returns : goal.returns
returns c = record {
  stands = c.new-world.ensures.stands (start 0) c.in_ok-plain.ensures (shaped_start 0) only_global;
  log = c.new-world.ensures.log;
}
