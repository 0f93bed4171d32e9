use Rattle.std.proofs.Common.{◌≡◌, ◌++◌, map}
use Rattle.std.specs.Vec.Iter.{into_iter_items}
use Rattle.lang_eval.proofs.scope.Env.into_values.Given as goal

abbrev pub invariant-loop-binding : goal.invariant-loop-binding
invariant-loop-binding l = l.values ++ map (λ b. b.value) (into_iter_items l.binding-iterator)
    ≡ map (λ b. b.value) (into_iter_items l.initial.binding-iterator)
