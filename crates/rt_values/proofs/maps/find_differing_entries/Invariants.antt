use Rattle.std.proofs.Common.{◌≡◌, ◌++◌, drop}
use Rattle.rt_values.specs.Maps.{differ_from}
use Rattle.rt_values.proofs.maps.find_differing_entries.Given as goal

abbrev pub invariant-loop-x : goal.invariant-loop-x
invariant-loop-x l = l.found ++ differ_from l.before l.x (drop l.x l.now) ≡ differ_from l.before 0 l.now
