use Rattle.std.proofs.Common.{◌≡◌, map, take}
use Rattle.snap_api.specs.World.{with_object}
use Rattle.snap_plain.proofs.snapshots.add_object_to_all.Given as goal

abbrev pub invariant-loop-shot : goal.invariant-loop-shot
invariant-loop-shot l = l.wide.items ≡ map (with_object l.entry) (take l.shot-index l.snapshots)
