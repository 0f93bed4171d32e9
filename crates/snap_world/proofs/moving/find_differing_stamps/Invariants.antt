use Rattle.std.proofs.Common.{◌≡◌, ◌≤◌, ◌-◌, ◌++◌, drop, length}
use Rattle.snap_laws.specs.TakesFor.{differ_stamps}
use Rattle.snap_world.proofs.moving.find_differing_stamps.Given as goal

abbrev pub invariant-loop-x : goal.invariant-loop-x
invariant-loop-x l = record {
  within : l.x ≤ length l.now;
  rest : l.found ++ differ_stamps l.before l.x (drop l.x l.now) ≡ differ_stamps l.before 0 l.now;
}

abbrev pub decreases-loop-x : goal.decreases-loop-x
decreases-loop-x l = length l.now - l.x
