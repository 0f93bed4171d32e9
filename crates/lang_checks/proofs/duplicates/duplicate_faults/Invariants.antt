use Rattle.std.proofs.Common.{◌≡◌, map, take, drop}
use Rattle.lang_checks.specs.FaultOrder.{least_fault_from}
use Rattle.lang_checks.specs.Scopes.{duplicate_faults}
use Rattle.lang_checks.proofs.duplicates.duplicate_faults.Given as goal

abbrev pub invariant-loop-i : goal.invariant-loop-i
invariant-loop-i g l =
    least_fault_from l.least (duplicate_faults (map g.T.HasName.title (take l.i l.parts))
    (map g.T.HasName.title (drop l.i l.parts)))
    ≡ least_fault_from l.initial.least
    (duplicate_faults (map g.T.HasName.title (take 0 l.parts)) (map g.T.HasName.title l.parts))
