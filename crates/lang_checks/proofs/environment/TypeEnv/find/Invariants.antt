use Rattle.std.proofs.Common.{◌≡◌, length}
use Rattle.lang_checks.specs.Scopes.{bound_type}
use Rattle.lang_checks.proofs.environment.TypeEnv.find.Given as goal

abbrev pub invariant-loop-typed_name : goal.invariant-loop-typed_name
invariant-loop-typed_name l = bound_type l.name.text l.rest ≡ bound_type l.name.text l.self

abbrev pub decreases-loop-typed_name : goal.decreases-loop-typed_name
decreases-loop-typed_name l = length l.rest
