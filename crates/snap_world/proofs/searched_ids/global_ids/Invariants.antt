use Rattle.std.proofs.Common.{◌≡◌, ℕ, true, false, drop}
use Rattle.rt_values.specs.Maps.{contains}
use Rattle.snap_ids.specs.IdLists.{IsRising}
use Rattle.snap_world.proofs.searched_ids.global_ids.Given as goal

abbrev pub invariant-loop-id : goal.invariant-loop-id
invariant-loop-id l = record {
  rising : IsRising l.ids;
  of : (i : ℕ) → contains i l.ids ≡ true → (contains i l.order ≡ true) × (contains i l.own ≡ true);
  all : (i : ℕ) → contains i l.order ≡ true → contains i l.own ≡ true
      → contains i (drop l.id-index l.id-items) ≡ false → contains i l.ids ≡ true;
}
