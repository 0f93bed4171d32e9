use Rattle.std.proofs.Common.{◌≡◌, drop}
use Rattle.lang_ast.specs.SyntaxView.{functions_view}
use Rattle.lang_checks.specs.FaultOrder.{least_fault_from}
use Rattle.lang_checks.specs.ProgramFaults.{functions_faults}
use Rattle.lang_checks.proofs.functions.check_functions.Given as goal

abbrev pub invariant-loop-me : goal.invariant-loop-me
invariant-loop-me l =
    least_fault_from l.least (functions_faults l.states (functions_view l.functions) l.me
    (functions_view (drop l.me l.functions)))
    ≡ least_fault_from l.initial.least
    (functions_faults l.states (functions_view l.functions) 0 (functions_view l.functions))
