use Rattle.std.proofs.Common.{◌≡◌, length}
use Rattle.lang_checks.specs.FaultOrder.{least_fault_from}
use Rattle.lang_checks.specs.ProgramFaults.{states_faults}
use Rattle.lang_checks.proofs.functions.check_states.Given as goal

abbrev pub invariant-loop-state : goal.invariant-loop-state
invariant-loop-state l =
    least_fault_from l.least (states_faults l.rest) ≡ least_fault_from l.initial.least (states_faults l.states)

abbrev pub decreases-loop-state : goal.decreases-loop-state
decreases-loop-state l = length l.rest
