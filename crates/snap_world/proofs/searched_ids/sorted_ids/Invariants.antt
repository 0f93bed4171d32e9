use Rattle.std.proofs.Common.{◌≡◌, ℕ, ◌<◌, ◌≤◌, true, Some, length}
use Rattle.std.specs.Prelude.{slice_get}
use Rattle.rt_values.specs.Maps.{contains}
use Rattle.snap_ids.specs.IdLists.{IsRising}
use Rattle.snap_records.specs.Chains.{keys_at, chain_of, record_at}
use Rattle.snap_records.specs.Records.{Rec, Has}
use Rattle.snap_world.proofs.searched_ids.sorted_ids.Given as goal

abbrev pub invariant-loop-i : goal.invariant-loop-i
invariant-loop-i l = record {
  rising : IsRising l.order;
  within : l.i ≤ length (keys_at l.chains l.x);
  of : (i : ℕ) → contains i l.order ≡ true → 0 < i → (p : Rec) × (Has (chain_of l.chains l.x) p) × (p.id ≡ i);
  all : (j r : ℕ) → l.i ≤ j → slice_get (keys_at l.chains l.x) j ≡ Some r
      → contains (record_at l.chains r).id l.order ≡ true;
}

abbrev pub decreases-loop-i : goal.decreases-loop-i
decreases-loop-i l = l.i
