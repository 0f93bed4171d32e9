use Rattle.std.proofs.Common.{◌≡◌, ◌≢◌, ℕ, ◌<◌, ◌+◌, ◌*◌, ◌≤◌, List, length, take, true, false, drop}
use Rattle.rt_values.specs.Maps.{contains}
use Rattle.snap_nested.specs.Ids.{valid_for_base}
use Rattle.snap_nested.specs.Members.{ids_of, member}
use Rattle.snap_records.specs.Records.{Rec}
use Rattle.snap_reuse.specs.Readers.{IsReadWithin}
use Rattle.snap_laws.specs.Coverage.{IsNeeded, live_count}
use Rattle.snap_world.specs.Sorted.{AreIdsOf, AreRecordsOwned, AreSearched}
use Rattle.snap_world.proofs.searched_ids.find_ids_in.Given as goal

abbrev pub invariant-loop-reader : goal.invariant-loop-reader
invariant-loop-reader l = record {
  many : length l.found.items ≡ l.reader-index;
  found : AreSearched (ids_of l.family.members) l.order l.family.held l.found.items;
  own : contains (member l.family.members l.name).id l.ids ≡ true;
  views : (c : List Rec) → AreIdsOf c l.order → AreRecordsOwned (ids_of l.family.members) c → (n : ℕ)
      → (ids_of l.family.members).live n ≡ true → n ≢ l.name
      → contains n (drop l.reader-index l.reader-items) ≡ false
      → IsReadWithin ((ids_of l.family.members).sees n) c l.ids;
  needed : (c : List Rec) → AreIdsOf c l.order → AreRecordsOwned (ids_of l.family.members) c → (i : ℕ)
      → contains i l.ids ≡ true → IsNeeded (ids_of l.family.members) l.name c i;
  few : length l.ids ≤ 2 * live_count (ids_of l.family.members).live (take l.reader-index l.reader-items) + 1;
  bases : (c : List Rec) → AreIdsOf c l.order → AreRecordsOwned (ids_of l.family.members) c → (n : ℕ)
      → (ids_of l.family.members).live n ≡ true → 0 < n
      → contains n (drop l.reader-index l.reader-items) ≡ false
      → IsReadWithin (valid_for_base (ids_of l.family.members) n) c l.ids;
}
