use Rattle.std.proofs.Common.{◌≡◌, ℕ, true, false}
use Rattle.rt_values.specs.Maps.{contains}
use Rattle.snap_nested.proofs.unused.collect_unused.Given as goal

abbrev pub invariant-loop-name : goal.invariant-loop-name
invariant-loop-name l = (i : ℕ) → contains i l.unused ≡ true → contains i l.used ≡ false
