use Rattle.std.proofs.Common.{◌≡◌, [], drop}
use Rattle.lang_ast.specs.SyntaxView.{functions_view}
use Rattle.lang_checks.specs.FaultOrder.{least_fault_from}
use Rattle.lang_checks.specs.CappedChains.{capped_faults}
use Rattle.lang_checks.proofs.chains.check_chains.Given as goal

abbrev pub invariant-loop-function : goal.invariant-loop-function
invariant-loop-function l = least_fault_from l.least
    (capped_faults l.chains.items (functions_view (drop l.function-index l.functions)))
    ≡ least_fault_from l.initial.least (capped_faults [] (functions_view l.functions))
