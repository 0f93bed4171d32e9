use Rattle.std.proofs.Common.{◌≡◌, take}
use Rattle.rt_values.proofs.maps.Map.copy.Given as goal

abbrev pub invariant-loop-stamped : goal.invariant-loop-stamped
invariant-loop-stamped l = l.entries.items ≡ take l.stamped-index l.stamped-items
