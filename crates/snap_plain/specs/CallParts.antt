-- Internal: the parts of a call of `PlainWorld`: the test for refusals, and the effect.
use Rattle.std.specs.Prelude.{◌≡◌, ℕ, ◌<◌, Bool, true, false, List, Option, Some, None, length, slice_get, slice_index_or, if◌then◌else◌, Result, Ok, Err}
use Rattle.rt_values.specs.Maps.{Map, value_at, contains}
use Rattle.rt_values.specs.declared.maps.StampedValue.{StampedValue}
use Rattle.rt_values.specs.declared.value.Value.{Value}
use Rattle.snap_policy.specs.Rules.{Rules}
use Rattle.snap_api.specs.Settle.{Settled, settled, conflict, verdict, settle_from, put_verdict, put_kept}
use Rattle.snap_api.specs.World.{World, snapshot_of, write, write_to, world_after_write, apply, apply_to, settled_of, with_members}
use Rattle.snap_api.specs.declared.data.Object.{Object}
use Rattle.snap_api.specs.declared.data.Refusal.{Refusal}
use Rattle.snap_api.specs.declared.data.Refusal.TheVariants as refusal
use Rattle.snap_api.specs.declared.data.Reply.{Reply}
use Rattle.snap_api.specs.declared.data.Reply.TheVariants as reply
use Rattle.snap_api.specs.declared.data.Snapshot.{Snapshot}

-- A call on w that was tested: it is refused with the refusal found, or else has its effect.
abbrev pub Tested : {P : Type 0} → World P → World P × Reply → World P × Reply → Option Refusal → Type 0
Tested w called effect (Some e) = called ≡ (w, reply.Refused e)
Tested w called effect None = called ≡ effect

-- A write that no test refuses: snapshot and object exist, and the policy decides.
pub record Writes {P : Type 0} (rules : Rules P) (w : World P) (caller name x : ℕ) (value : Value) : Type 0 where
  pub known : name < length w.snapshots
  pub there : x < length w.objects
  pub call : (o : Object P) → o ≡ slice_index_or w.objects x o → write rules w caller name x value
      ≡ (if rules.equiv o.policy (value_at (snapshot_of w name).view x) value then (w, reply.Wrote false)
      else (world_after_write w name x value, reply.Wrote true))

-- The refusal of a write, if a test found one.
abbrev pub WriteTested : {P : Type 0} → Rules P → World P → ℕ → ℕ → ℕ → Value → Option Refusal → Type 0
WriteTested rules w caller name x value (Some e) = write rules w caller name x value ≡ (w, reply.Refused e)
WriteTested rules w caller name x value None = Writes rules w caller name x value

-- A write to an object, after the tests of the clock and the snapshot: the object exists, and the policy decides.
pub record WritesTo {P : Type 0} (rules : Rules P) (w : World P) (caller name x : ℕ) (value : Value) : Type 0 where
  pub there : x < length w.objects
  pub call : (o : Object P) → o ≡ slice_index_or w.objects x o
      → write_to rules w caller name x value (slice_get w.objects x)
      ≡ (if rules.equiv o.policy (value_at (snapshot_of w name).view x) value then (w, reply.Wrote false)
      else (world_after_write w name x value, reply.Wrote true))

-- The refusal of a write that depends on the object, if a test found one.
abbrev pub ObjectTested : {P : Type 0} → Rules P → World P → ℕ → ℕ → ℕ → Value → Option Refusal → Type 0
ObjectTested rules w caller name x value (Some e) =
    write_to rules w caller name x value (slice_get w.objects x) ≡ (w, reply.Refused e)
ObjectTested rules w caller name x value None = WritesTo rules w caller name x value

-- An apply that no test refuses: snapshot and parent exist, and the objects are settled.
pub record Applies {P : Type 0} (rules : Rules P) (w : World P) (caller name : ℕ) : Type 0 where
  pub known : name < length w.snapshots
  pub above : (snapshot_of w name).parent < length w.snapshots
  pub call : apply rules w caller name ≡ apply_to rules w caller name (settled_of rules w caller name)

-- The refusal of an apply before its objects are settled, if a test found one.
abbrev pub ApplyTested : {P : Type 0} → Rules P → World P → ℕ → ℕ → Option Refusal → Type 0
ApplyTested rules w caller name (Some e) = apply rules w caller name ≡ (w, reply.Refused e)
ApplyTested rules w caller name None = Applies rules w caller name

-- The object that conflicts, if there is one.
abbrev pub conflict_of : Settled → Option ℕ
conflict_of (settled m changed) = None
conflict_of (conflict x) = Some x

-- A snapshot with the view m and the written objects `wrote`.
abbrev pub with_view : Snapshot → Map → List ℕ → Snapshot
with_view s m wrote = record s { view = m; wrote = wrote }

-- The verdict on object x, written or not, before the verdicts on the later objects.
abbrev pub settle_one : {P : Type 0} → Rules P → Bool → P → StampedValue → StampedValue → StampedValue → ℕ → ℕ → Settled
    → Settled
settle_one rules wrote p previous current applied now x rest =
    if wrote then put_verdict x current (verdict rules p previous current applied now) rest else put_kept current rest

-- The objects of a snapshot were settled: the parent's new view and the objects written in the parent then, or the
-- least conflict. Nothing is known if memory ran out.
abbrev pub SettlesTo : {P : Type 0} → Rules P → World P → ℕ → Result (Map × List ℕ) Refusal → Type 0
SettlesTo rules w name (Ok r) =
    (changed : List ℕ) × (settled_of rules w 0 name ≡ settled r.0 changed)
    × (r.1 ≡ with_members changed (snapshot_of w (snapshot_of w name).parent).wrote)
SettlesTo rules w name (Err (refusal.Conflict x)) = settled_of rules w 0 name ≡ conflict x
SettlesTo rules w name (Err refusal.NoMemory) = Unit {0}
SettlesTo rules w name (Err e) = ⊥

-- The verdict on all objects, for a snapshot with its parent's view.
abbrev pub settle_shot : {P : Type 0} → Rules P → ℕ → Snapshot → Map → List (Object P) → Settled
settle_shot rules now s current objects = settle_from rules now s.wrote 0 objects s.base current s.view

-- No merge of an object that the snapshot wrote takes memory, for a snapshot with its parent's view.
abbrev pub AreFree : {P : Type 0} → (P → Value → Value → Value → Type 0) → Snapshot → Map → List (Object P) → Type 0
AreFree {P} is_free s current objects = (x : ℕ) (o : Object P) → x < length objects → o ≡ slice_index_or objects x o →
    contains x s.wrote ≡ true → is_free o.policy (value_at s.base x) (value_at current x) (value_at s.view x)
