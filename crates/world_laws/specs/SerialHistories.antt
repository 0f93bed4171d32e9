-- Law: a history in which each snapshot of global uses only objects that it changed, and every apply meets no other
-- write, is serial.
use Rattle.std.specs.Prelude.{◌≡◌, ℕ, pos, ◌==◌, ◌≤◌, Bool, true, false, not, List, [], ◌∷◌, ◌++◌, Option, Some, None, length, slice_get, if◌then◌else◌}
use Rattle.rt_values.specs.declared.names.Kind.TheVariants.{Mutable}
use Rattle.rt_values.specs.declared.value.Value.{Value}
use Rattle.rt_values.specs.declared.value.Value.TheVariants as value
use Rattle.rt_values.specs.Maps.{entry_at, value_at, contains}
use Rattle.snap_policy.specs.Rules.{Rules}
use Rattle.snap_policy.specs.Table.{table}
use Rattle.snap_api.specs.Valid.{IsValid}
use Rattle.snap_api.specs.World.{World, History, snapshot_of, call, world_after, IsLegal}
use Rattle.snap_api.specs.declared.data.Object.{Object}
use Rattle.snap_api.specs.declared.data.Reply.{Reply}
use Rattle.snap_api.specs.declared.data.Reply.TheVariants as reply
use Rattle.snap_api.specs.declared.data.Request.{Request}
use Rattle.snap_api.specs.declared.data.Request.TheVariants as request
use Rattle.world_laws.specs.WriteSkew.{two_zeros, entry}

-- A read of object `x` with the value that it returned, or a write of a value to `x` with its answer whether the object
-- changed.
pub data ObjectUse : Type 0 where
  ReadOf : (x : ℕ) (value : Value) → ObjectUse
  WriteOf : (x : ℕ) (value : Value) (changed : Bool) → ObjectUse

-- The use that a call with its reply makes of an object in snapshot `name`. A refused call makes none.
abbrev pub use_in : ℕ → Request → Reply → List ObjectUse
use_in name (request.Read n x) (reply.Got value) = if n == name then ReadOf x value ∷ [] else []
use_in name (request.Write n x value) (reply.Wrote changed) = if n == name then WriteOf x value changed ∷ [] else []
use_in name _ _ = []

-- The uses that a history makes of objects in snapshot `name`, in order.
abbrev pub uses_in : ℕ → History → List ObjectUse
uses_in name [] = []
uses_in name (e ∷ es) = use_in name e.request e.reply ++ uses_in name es

-- The uses that a call adds to the order of the applies: for an apply those that the history `before` makes in the
-- snapshot, for a read or a write of global itself this use.
abbrev pub uses_at_apply : History → Request → Reply → List ObjectUse
uses_at_apply before (request.Apply name) reply.Applied = uses_in name before
uses_at_apply before q r = use_in 0 q r

-- The uses of a history that comes after `before`, snapshot by snapshot in the order of the applies.
abbrev pub uses_by_apply : History → History → List ObjectUse
uses_by_apply before [] = []
uses_by_apply before (e ∷ es) = uses_at_apply before e.request e.reply ++ uses_by_apply (before ++ e ∷ []) es

-- Each use is of an object in the list.
abbrev pub UsesOnly : List ℕ → List ObjectUse → Type 0
UsesOnly xs [] = Unit {0}
UsesOnly xs (ReadOf x value ∷ us) = (contains x xs ≡ true) × UsesOnly xs us
UsesOnly xs (WriteOf x value changed ∷ us) = (contains x xs ≡ true) × UsesOnly xs us

-- Values of objects with object `x` changed.
abbrev pub with_value : (ℕ → Value) → ℕ → Value → ℕ → Value
with_value m x value y = if x == y then value else m y

-- Snapshot `name` is a child of global and none of the first `old` snapshots. It uses only objects that it changed, and
-- global still has these objects with the stamps that they had at the take.
pub record IsClean {P : Type 0} (old : ℕ) (w : World P) (before : History) (name : ℕ) : Type 0 where
  pub later : old ≤ name
  pub parent : (snapshot_of w name).parent ≡ 0
  pub own : UsesOnly (snapshot_of w name).wrote (uses_in name before)
  pub unmet : (x : ℕ) → contains x (snapshot_of w name).wrote ≡ true →
      (entry_at (snapshot_of w name).base x).stamp ≡ (entry_at (snapshot_of w 0).view x).stamp

module _ {P : Type 0} (rules : Rules P) where
  -- Whether a write of `new` over `old` changes an object.
  abbrev pub is_change : Option (Object P) → Value → Value → Bool
  is_change None old new = false
  is_change (Some o) old new = not (rules.equiv o.policy old new)

  -- Made one after the other on the values `m`, the uses have the recorded answers and leave the values `after`.
  abbrev pub IsSerial : List (Object P) → (ℕ → Value) → List ObjectUse → (ℕ → Value) → Type 0
  IsSerial objects m [] after = (x : ℕ) → after x ≡ m x
  IsSerial objects m (ReadOf x value ∷ us) after = (value ≡ m x) × IsSerial objects m us after
  IsSerial objects m (WriteOf x value changed ∷ us) after = (changed ≡ is_change (slice_get objects x) (m x) value)
      × IsSerial objects (if changed then with_value m x value else m) us after

  -- Each apply of a history that succeeds is clean just before the call.
  abbrev pub AppliesAreClean : ℕ → World P → History → History → Type 0
  AppliesAreClean old w before [] = Unit {0}
  AppliesAreClean old w before (e ∷ es) =
      ((name : ℕ) → e.request ≡ request.Apply name → e.reply ≡ reply.Applied → IsClean old w before name)
      × AppliesAreClean old (call rules w e.caller e.request).0 (before ++ e ∷ []) es

  -- If each apply of a legal history is clean, the reads and writes of the applied snapshots have the answers that they
  -- would have if each snapshot made all its calls at its apply, and global ends with the values of that order.
  abbrev pub CleanHistoryIsSerial : Type 0
  CleanHistoryIsSerial = (w : World P) (h : History) → IsValid rules w → IsLegal rules w h →
      AppliesAreClean (length w.snapshots) w [] h →
      IsSerial w.objects (λ x. value_at (snapshot_of w 0).view x) (uses_by_apply [] h)
      (λ x. value_at (snapshot_of (world_after rules w h) 0).view x)

-- Callers 1 and 2 take snapshots of two numbers. Caller 1 adds to one number and caller 2 to the other, and their calls are
-- woven.
abbrev pub woven_apart : History
woven_apart =
    entry 1 (request.Take 0 Mutable) (reply.Taken 1) ∷ entry 2 (request.Take 0 Mutable) (reply.Taken 2)
    ∷ entry 1 (request.Read 1 0) (reply.Got (value.Int (pos 0)))
    ∷ entry 2 (request.Read 2 1) (reply.Got (value.Int (pos 0)))
    ∷ entry 1 (request.Write 1 0 (value.Int (pos 1))) (reply.Wrote true)
    ∷ entry 2 (request.Write 2 1 (value.Int (pos 1))) (reply.Wrote true) ∷ entry 2 (request.Apply 2) reply.Applied
    ∷ entry 1 (request.Apply 1) reply.Applied ∷ []

-- A legal history of clean applies whose snapshots are open at the same time.
pub record CleanHistoriesAreWoven : Type 0 where
  pub legal : IsLegal table two_zeros woven_apart
  pub clean : AppliesAreClean table (length two_zeros.snapshots) two_zeros [] woven_apart
