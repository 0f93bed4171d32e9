use Rattle.std.proofs.Common.{◌≡◌, ◌≢◌, ℕ, ◌<◌, ◌+◌, ◌*◌, ◌≤◌, length, take, true, false, drop}
use Rattle.rt_values.specs.Maps.{contains}
use Rattle.snap_nested.specs.Ids.{valid_for_base}
use Rattle.snap_nested.specs.Members.{ids_of, member}
use Rattle.snap_records.specs.Chains.{chain_of}
use Rattle.snap_reuse.specs.Readers.{IsReadWithin}
use Rattle.snap_laws.specs.Coverage.{IsNeeded, live_count}
use Rattle.snap_world.proofs.kept_ids.find_walked_ids.Given as goal

abbrev pub invariant-loop-index : goal.invariant-loop-index
invariant-loop-index l = record {
  own : contains (member l.family.members l.name).id l.ids ≡ true;
  views : (n : ℕ) → (ids_of l.family.members).live n ≡ true → n ≢ l.name
      → contains n (drop l.index l.readers) ≡ false
      → IsReadWithin ((ids_of l.family.members).sees n) (chain_of l.chains l.x) l.ids;
  needed : (i : ℕ) → contains i l.ids ≡ true
      → IsNeeded (ids_of l.family.members) l.name (chain_of l.chains l.x) i;
  few : length l.ids ≤ 2 * live_count (ids_of l.family.members).live (take l.index l.readers) + 1;
  bases : (n : ℕ) → (ids_of l.family.members).live n ≡ true → 0 < n
      → contains n (drop l.index l.readers) ≡ false
      → IsReadWithin (valid_for_base (ids_of l.family.members) n) (chain_of l.chains l.x) l.ids;
}
