use Rattle.std.proofs.Common.{take}
use Rattle.snap_api.specs.Choices.{is_clash}
use Rattle.snap_laws.specs.Applies.{choice_at}
use Rattle.snap_world.specs.Choices.{IsLeast}
use Rattle.snap_world.specs.Holding.{world_parts}
use Rattle.snap_world.proofs.world.RecordWorld.find_conflict.Given as goal

abbrev pub invariant-loop-x : goal.invariant-loop-x
invariant-loop-x g l = IsLeast (λ x. is_clash (choice_at g.P.Policy.rules (world_parts l.self) l.name l.into x))
    (take l.x-index l.x-items) l.least
