-- Trusted: which record a write overwrites.
use Rattle.std.specs.Prelude.{◌≡◌, ◌≢◌, ℕ, ◌<◌, true, List}
use Rattle.rt_values.specs.declared.maps.StampedValue.{StampedValue}
use Rattle.snap_records.specs.Records.{Rec, Has, Reads}
use Rattle.snap_nested.specs.Ids.{Ids, valid_for_base}

-- After a write in the snapshot `name`, the chain still has each record that carries the view of another live snapshot,
-- and each that carries a live snapshot's base. So a write overwrites the snapshot's own current record, or one that
-- carries neither.
pub record SparesReadRecords (f : Ids) (name : ℕ) (before after : List Rec) : Type 0 where
  pub views : (n : ℕ) (e : StampedValue) → f.live n ≡ true → n ≢ name → (r : Reads (f.sees n) before e)
      → Has after r.rec
  pub bases : (n : ℕ) (e : StampedValue) → f.live n ≡ true → 0 < n → (r : Reads (valid_for_base f n) before e)
      → Has after r.rec
