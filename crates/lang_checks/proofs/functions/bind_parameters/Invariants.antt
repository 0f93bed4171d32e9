use Rattle.std.proofs.Common.{◌≡◌, ◌++◌, drop}
use Rattle.lang_checks.specs.ProgramFaults.{bound_parameters}
use Rattle.lang_checks.proofs.functions.bind_parameters.Given as goal

abbrev pub invariant-loop-parameter : goal.invariant-loop-parameter
invariant-loop-parameter l =
    l.scope ++ bound_parameters (drop l.parameter-index l.parameters) ≡ bound_parameters l.parameters
