use Rattle.std.proofs.Common.{◌≡◌, drop}
use Rattle.rt_values.specs.Values.{same_values}
use Rattle.composer.proofs.compared.same_lists.Given as goal

abbrev pub invariant-loop-value : goal.invariant-loop-value
invariant-loop-value l = same_values (drop l.value-index l.values) l.rest ≡ same_values l.values l.others
