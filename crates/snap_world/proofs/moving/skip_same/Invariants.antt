use Rattle.std.proofs.Common.{◌≡◌, ◌≤◌, ◌-◌, drop, length}
use Rattle.snap_laws.specs.TakesFor.{differ_stamps}
use Rattle.snap_world.proofs.moving.skip_same.Given as goal

abbrev pub invariant-loop-i : goal.invariant-loop-i
invariant-loop-i l = record {
  within : l.i ≤ length l.now;
  above : l.from ≤ l.i;
  same : differ_stamps l.before l.i (drop l.i l.now) ≡ differ_stamps l.before l.from (drop l.from l.now);
}

abbrev pub decreases-loop-i : goal.decreases-loop-i
decreases-loop-i l = length l.now - l.i
