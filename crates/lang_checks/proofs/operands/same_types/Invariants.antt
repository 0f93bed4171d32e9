use Rattle.std.proofs.Common.{◌≡◌, length}
use Rattle.lang_checks.specs.Operands.{same_types}
use Rattle.lang_checks.proofs.operands.same_types.Given as goal

abbrev pub invariant-loop-ty : goal.invariant-loop-ty
invariant-loop-ty l = same_types l.left l.right ≡ same_types l.types l.others

abbrev pub decreases-loop-ty : goal.decreases-loop-ty
decreases-loop-ty l = length l.left
