use Rattle.std.proofs.Common.{◌≡◌, ◌⊎◌, ℕ, true, false, length}
use Rattle.rt_values.specs.Maps.{contains}
use Rattle.snap_ids.specs.IdLists.{rest_from}
use Rattle.snap_nested.proofs.unused.add_unused.Given as goal

abbrev pub invariant-loop-next : goal.invariant-loop-next
invariant-loop-next l = (i : ℕ) → contains i l.unused ≡ true
    → (contains i l.initial.unused ≡ true) ⊎ (contains i l.used ≡ false)

abbrev pub decreases-loop-next : goal.decreases-loop-next
decreases-loop-next l = length (rest_from l.next l.own)
