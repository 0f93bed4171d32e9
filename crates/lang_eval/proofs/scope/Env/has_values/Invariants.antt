use Rattle.std.proofs.Common.{◌≡◌, drop, map}
use Rattle.rt_values.specs.Values.{same_values}
use Rattle.lang_eval.proofs.scope.Env.has_values.Given as goal

abbrev pub invariant-loop-value : goal.invariant-loop-value
invariant-loop-value l = same_values (drop l.value-index l.values) (map (λ b. b.value) l.rest)
    ≡ same_values l.values (map (λ b. b.value) l.self)
