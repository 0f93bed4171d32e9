-- Trusted: the parts of a `RecordWorld`.
use Rattle.std.specs.Prelude.{◌≡◌, ℕ, ◌<◌, Bool, length, slice_get, true, Some, IsSome, List}
use Rattle.rt_values.specs.declared.maps.StampedValue.{StampedValue}
use Rattle.rt_values.specs.declared.value.Value.{Value}
use Rattle.snap_policy.specs.Rules.{Rules}
use Rattle.snap_api.specs.declared.data.Object.{Object}
use Rattle.snap_records.specs.Records.{Rec, Has, AreApart, Reads}
use Rattle.slab.specs.Slab.{get}
use Rattle.snap_nested.specs.Ids.{valid_for_base}
use Rattle.snap_laws.specs.Maps.{read_entry}
use Rattle.snap_laws.specs.Applies.{choice_at}
use Rattle.snap_world.specs.Noting.{noted_of}
use Rattle.snap_world.specs.Choices.{choice_of_settled}
use Rattle.snap_world.specs.declared.settling.Settled.{Settled}
use Rattle.snap_world.specs.declared.settling.ReadRecords.{ReadRecords}
use Rattle.rt_values.specs.Maps.{contains}
use Rattle.snap_nested.specs.Members.{member, ids_of}
use Rattle.snap_records.specs.Chains.{chain_of, record_at}
use Rattle.snap_laws.specs.Represents.{WorldParts}
use Rattle.snap_world.specs.declared.world.RecordWorld.{RecordWorld}

abbrev pub world_parts : {P : Type 0} → RecordWorld P → WorldParts P
world_parts s = record {
  clock = s.clock;
  objects = s.objects.items;
  names = length s.family.members;
  handed = s.family.handed;
  ids = ids_of s.family.members;
  owner = λ n. (member s.family.members n).owner;
  kind = λ n. (member s.family.members n).kind;
  noted = λ n x. contains x (noted_of s.wrote n);
  chains = λ x. chain_of s.chains x;
  stamps = s.stamps.items;
  watchers = s.lasts.items;
}

-- The policy's comparison of a value with the one that the snapshot reads.
pub record IsComparison {P : Type 0} (rules : Rules P) (h : WorldParts P) (name x : ℕ) (value : Value)
    (like : Bool) : Type 0 where
  pub object : Object P
  pub there : slice_get h.objects x ≡ Some object
  pub entry : StampedValue
  pub reads : Reads (h.ids.sees name) (h.chains x) entry
  pub is : rules.equiv object.policy entry.value value ≡ like

-- The records have different ids except for 0, and these are in the list.
pub record IsWithin (ids : List ℕ) (chain : List Rec) : Type 0 where
  pub apart : AreApart chain
  pub listed : (p : Rec) → Has chain p → 0 < p.id → contains p.id ids ≡ true

-- The records carry the values of the snapshot's base, of its parent's view and of its own view.
pub record AreRead {P : Type 0} (s : RecordWorld P) (name into x : ℕ) (r : ReadRecords) : Type 0 where
  pub previous : (record_at s.chains r.previous.0).entry
      ≡ read_entry (valid_for_base (world_parts s).ids name) ((world_parts s).chains x)
  pub current : (record_at s.chains r.current.0).entry ≡ read_entry ((world_parts s).ids.sees into) ((world_parts s).chains x)
  pub applied : (record_at s.chains r.applied.0).entry ≡ read_entry ((world_parts s).ids.sees name) ((world_parts s).chains x)
  pub previous_there : IsSome (get s.chains.slots r.previous.0)
  pub current_there : IsSome (get s.chains.slots r.current.0)
  pub applied_there : IsSome (get s.chains.slots r.applied.0)

-- The settled objects have the verdicts that the records give, and are known.
abbrev pub AreSettled : {P : Type 0} → Rules P → WorldParts P → ℕ → ℕ → List Settled → Type 0
AreSettled rules h name into settled = (i : ℕ) (s : Settled) → slice_get settled i ≡ Some s
    → (choice_of_settled s ≡ choice_at rules h name into s.object) × (s.object < length h.objects)
