use Rattle.std.proofs.Common.{◌≡◌, length}
use Rattle.lang_ast.specs.Evaluation.{lookup}
use Rattle.lang_eval.proofs.scope.Env.value_of.Given as goal

abbrev pub invariant-loop-binding : goal.invariant-loop-binding
invariant-loop-binding l = lookup l.rest l.name ≡ lookup l.self l.name

abbrev pub decreases-loop-binding : goal.decreases-loop-binding
decreases-loop-binding l = length l.rest
