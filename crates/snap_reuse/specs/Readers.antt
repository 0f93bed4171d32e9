-- Trusted: which records of a chain are read, and which may be reused.
use Rattle.std.specs.Prelude.{◌≡◌, ◌≢◌, ℕ, ◌<◌, ◌≤◌, ◌==◌, nat_le, Bool, true, false, not, ◌||◌, ◌⊎◌, List, length, slice_get, Option, Some, None, if◌then◌else◌}
use Rattle.std.specs.List.{list_any}
use Rattle.rt_values.specs.Maps.{contains}
use Rattle.snap_ids.specs.IdLists.{is_valid}
use Rattle.snap_records.specs.Records.{Rec, Has, Puts}
use Rattle.snap_records.specs.Edits.{readable}
use Rattle.snap_records.specs.Chains.{record_at, keys_at, chain_of, FirstRecord}
use Rattle.snap_records.specs.declared.chains.Chains.{Chains}
use Rattle.snap_records.specs.declared.slots.RecordNo.{RecordNo}
use Rattle.snap_reuse.specs.declared.readers.RecordReader.{RecordReader}

-- Whether there is a record, and it has this id.
abbrev pub has_id : ℕ → Option Rec → Bool
has_id i None = false
has_id i (Some r) = r.id == i

-- Whether the reader's readable record has this id.
abbrev pub is_read_by : List Rec → ℕ → RecordReader → Bool
is_read_by c i reader = has_id i (readable (is_valid reader.id reader.invalid) c)

-- Whether a reader reads the record with this id.
abbrev pub is_read : List Rec → ℕ → List RecordReader → Bool
is_read c i readers = list_any (is_read_by c i) readers

-- The record with the lower id of `r` and the best record so far, if no reader reads `r`. Else the best record so far.
abbrev pub lower_record : Chains → RecordNo → Option RecordNo → Bool → Option RecordNo
lower_record c r best false = best
lower_record c r None true = Some r
lower_record c r (Some b) true = if nat_le (record_at c b.0).id (record_at c r.0).id then Some b else Some r

-- Record r is among the first n of the object's, no reader reads it, and of those it has the lowest id.
pub record LowestUnread (c : Chains) (x : ℕ) (readers : List RecordReader) (n r : ℕ) : Type 0 where
  pub at : ℕ
  pub below : at < n
  pub key : slice_get (keys_at c x) at ≡ Some r
  pub unread : is_read (chain_of c x) (record_at c r).id readers ≡ false
  pub lowest : (k q : ℕ) → k < n → slice_get (keys_at c x) k ≡ Some q
      → is_read (chain_of c x) (record_at c q).id readers ≡ false → (record_at c r).id ≤ (record_at c q).id

-- The record with the lowest id among the first n that no reader reads, or none if each of them is read.
abbrev pub IsLowestUnread : Chains → ℕ → List RecordReader → ℕ → Option RecordNo → Type 0
IsLowestUnread c x readers n None = (k q : ℕ) → k < n → slice_get (keys_at c x) k ≡ Some q
    → is_read (chain_of c x) (record_at c q).id readers ≡ true
IsLowestUnread c x readers n (Some b) = LowestUnread c x readers n b.0

-- No record of the object has id 0.
abbrev pub AreUsed : Chains → ℕ → Type 0
AreUsed c x = (k q : ℕ) → slice_get (keys_at c x) k ≡ Some q → (record_at c q).id ≢ 0

-- The record that a write may overwrite: the first one with id 0, or, if there is no such record, the one with the
-- lowest id that no reader reads. None if no record has id 0 and each is read.
abbrev pub IsReusable : Chains → ℕ → List RecordReader → Option RecordNo → Type 0
IsReusable c x readers None = AreUsed c x × IsLowestUnread c x readers (length (keys_at c x)) None
IsReusable c x readers (Some b) =
    FirstRecord c x 0 b.0 ⊎ (AreUsed c x × IsLowestUnread c x readers (length (keys_at c x)) (Some b))

-- The readable record by these valid ids, if there is one, has an id of the list.
abbrev pub IsReadWithin : (ℕ → Bool) → List Rec → List ℕ → Type 0
IsReadWithin sees c ids = (i : ℕ) → has_id i (readable sees c) ≡ true → contains i ids ≡ true

-- Whether a write under the id may lose a record with id i: i is that id, or is not in the list.
abbrev pub is_unkept : List ℕ → ℕ → ℕ → Bool
is_unkept kept id i = i == id || not (contains i kept)

-- A write puts `q` into the chain. Each record whose id is in `kept` remains, except a record with the id of `q`.
-- After the write, each record has id 0 or an id in `kept`.
pub record PutsKeeping (before after : List Rec) (q : Rec) (kept : List ℕ) : Type 0 where
  pub put : Puts before after q (is_unkept kept q.id)
  pub swept : (p : Rec) → Has after p → 0 < p.id → contains p.id kept ≡ true
