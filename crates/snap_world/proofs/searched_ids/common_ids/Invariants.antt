use Rattle.std.proofs.Common.{◌≡◌, ℕ, true, false, length}
use Rattle.rt_values.specs.Maps.{contains}
use Rattle.snap_ids.specs.IdLists.{IsRising, rest_from}
use Rattle.snap_world.proofs.searched_ids.common_ids.Given as goal

abbrev pub invariant-loop-next : goal.invariant-loop-next
invariant-loop-next l = record {
  within : (i : ℕ) → contains i (rest_from l.next l.own) ≡ true → contains i l.own ≡ true;
  rising : IsRising l.ids;
  of : (i : ℕ) → contains i l.ids ≡ true → (contains i l.order ≡ true) × (contains i l.own ≡ true);
  all : (i : ℕ) → contains i l.order ≡ true → contains i l.own ≡ true
      → contains i (rest_from l.next l.own) ≡ false → contains i l.ids ≡ true;
}

abbrev pub decreases-loop-next : goal.decreases-loop-next
decreases-loop-next l = length (rest_from l.next l.own)
