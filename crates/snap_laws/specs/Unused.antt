-- Internal: ids under which no record was written may lose their owner, and nothing is read otherwise.
use Rattle.std.specs.Prelude.{◌≡◌, ℕ, ◌<◌, Bool, true, false, List}
use Rattle.rt_values.specs.declared.maps.StampedValue.{StampedValue}
use Rattle.snap_policy.specs.Rules.{Rules}
use Rattle.snap_api.specs.World.{World}
use Rattle.snap_records.specs.Records.{Rec, Has}
use Rattle.snap_nested.specs.Ids.{Ids, IsDated}
use Rattle.snap_nested.specs.Unused.{LosesOwners}
use Rattle.snap_laws.specs.Keeps.{IsKept}
use Rattle.snap_laws.specs.Represents.{WorldParts, Represents}
use Rattle.snap_laws.specs.Steps.{SameHeld}

-- An unused id is not 1, no name's first id, no live name's current id, and no record's id.
pub record AreUnused (f : Ids) (chains : ℕ → List Rec) (unused : ℕ → Bool) : Type 0 where
  pub root : unused 1 ≡ false
  pub first : (n i : ℕ) → f.owns n i ≡ true → unused (f.first n) ≡ false
  pub current : (n : ℕ) → f.live n ≡ true → unused (f.current n) ≡ false
  pub unwritten : (x : ℕ) (p : Rec) → Has (chains x) p → 0 < p.id → unused p.id ≡ false

abbrev pub LossesKeep : Type 0
LossesKeep = (f g : Ids) (handed : ℕ) (noted : ℕ → ℕ → Bool) (chains : ℕ → List Rec) (objects : ℕ) (view base : ℕ
    → ℕ → StampedValue) (unused : ℕ → Bool) →
    IsKept f handed noted chains objects view base → AreUnused f chains unused → LosesOwners f g unused → IsDated g
    → IsKept g handed noted chains objects view base

-- Unused ids lost their owners.
pub record LosesTo {P : Type 0} (h k : WorldParts P) (unused : ℕ → Bool) : Type 0 where
  pub same : SameHeld h k
  pub handed : k.handed ≡ h.handed
  pub ids : LosesOwners h.ids k.ids unused
  pub dated : IsDated k.ids
  pub chains : k.chains ≡ h.chains
  pub noted : k.noted ≡ h.noted

abbrev pub LossesRepresent : {P : Type 0} → Rules P → Type 0
LossesRepresent {P} rules = (h k : WorldParts P) (w : World P) (unused : ℕ → Bool) → Represents h w
    → AreUnused h.ids h.chains unused → LosesTo h k unused → Represents k w
