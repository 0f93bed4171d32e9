use Rattle.std.proofs.Common.{◌≡◌, drop}
use Rattle.rt_values.specs.Values.{same_values}
use Rattle.remember_cells.proofs.same_keys.Given as goal

abbrev pub invariant-loop-key : goal.invariant-loop-key
invariant-loop-key l = same_values (drop l.key-index l.keys) l.rest ≡ same_values l.keys l.others
