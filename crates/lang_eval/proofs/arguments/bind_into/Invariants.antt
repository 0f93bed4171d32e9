use Rattle.std.proofs.Common.{◌≡◌, ◌++◌, drop}
use Rattle.compose_model.specs.Composing.{bind}
use Rattle.lang_eval.proofs.arguments.bind_into.Given as goal

abbrev pub invariant-loop-parameter : goal.invariant-loop-parameter
invariant-loop-parameter l =
    l.scope ++ bind (drop l.parameter-index l.parameters) l.rest ≡ l.fn.scope ++ bind l.parameters l.arguments
