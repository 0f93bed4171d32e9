use Rattle.std.proofs.Common.{◌≡◌, take}
use Rattle.snap_world.specs.Choices.{objects_of}
use Rattle.snap_world.specs.Holding.{world_parts, AreSettled}
use Rattle.snap_world.proofs.world.RecordWorld.settle.Given as goal

abbrev pub invariant-loop-x : goal.invariant-loop-x
invariant-loop-x g l = record {
  objects : objects_of l.settled.items ≡ take l.x-index l.x-items;
  each : AreSettled g.P.Policy.rules (world_parts l.self) l.name l.into l.settled.items;
}
