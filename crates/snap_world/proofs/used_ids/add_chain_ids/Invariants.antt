use Rattle.std.proofs.Common.{◌≡◌, ℕ, ◌<◌, true, Some}
use Rattle.std.specs.Prelude.{slice_get}
use Rattle.rt_values.specs.Maps.{contains}
use Rattle.snap_records.specs.Chains.{keys_at, record_at}
use Rattle.snap_world.proofs.used_ids.add_chain_ids.Given as goal

abbrev pub invariant-loop-i : goal.invariant-loop-i
invariant-loop-i l = record {
  more : (i : ℕ) → contains i l.initial.used ≡ true → contains i l.used ≡ true;
  all : (j r : ℕ) → j < l.i → slice_get (keys_at l.chains l.x) j ≡ Some r
      → contains (record_at l.chains r).id l.used ≡ true;
}
