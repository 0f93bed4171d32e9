use Rattle.std.proofs.Common.{◌≡◌, length}
use Rattle.lang_checks.specs.Operands.{same_types}
use Rattle.lang_checks.specs.Statements.{parameter_types}
use Rattle.lang_checks.proofs.statement.accepts_arguments.Given as goal

abbrev pub invariant-loop-parameter : goal.invariant-loop-parameter
invariant-loop-parameter l =
    same_types (parameter_types l.left) l.right ≡ same_types (parameter_types l.parameters) l.types

abbrev pub decreases-loop-parameter : goal.decreases-loop-parameter
decreases-loop-parameter l = length l.left
