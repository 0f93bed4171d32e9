use Rattle.std.proofs.Common.{◌≡◌, ◌≤◌, ◌-◌, ◌++◌, drop}
use Rattle.snap_laws.specs.TakesFor.{differ_stamps}
use Rattle.snap_world.proofs.moving.add_differing.Given as goal

abbrev pub invariant-loop-x : goal.invariant-loop-x
invariant-loop-x l = record {
  within : l.x ≤ l.end;
  rest : l.found ++ differ_stamps l.before l.x (drop l.x l.now)
      ≡ l.initial.found ++ differ_stamps l.before l.from (drop l.from l.now);
}

abbrev pub decreases-loop-x : goal.decreases-loop-x
decreases-loop-x l = l.end - l.x
