-- Trusted: the plain world that a `PlainWorld` keeps.
use Rattle.std.specs.Prelude.{◌≡◌, ℕ}
use Rattle.std.specs.declared.result.Result.{Result}
use Rattle.rt_values.specs.declared.value.Ty.{Ty}
use Rattle.rt_values.specs.declared.value.Value.{Value}
use Rattle.snap_policy.specs.Rules.{Rules}
use Rattle.snap_api.specs.Calls.{Calls, Makes}
use Rattle.snap_api.specs.World.{World}
use Rattle.snap_api.specs.declared.data.Refusal.{Refusal}
use Rattle.snap_api.specs.declared.data.Reply.{Reply}
use Rattle.snap_api.specs.declared.data.Request.{Request}
use Rattle.snap_plain.specs.declared.world.PlainWorld.{PlainWorld}

-- The plain world that a `PlainWorld` keeps: clock, objects, snapshots and last maps are its fields.
abbrev pub world_of : {P : Type 0} → PlainWorld P → World P
world_of s = record { clock = s.clock; objects = s.objects.items; snapshots = s.snapshots.items; lasts = s.lasts.items }

-- A call on a `PlainWorld` has the reply and the effect of the call on its plain world.
abbrev pub PlainCalls : {P : Type 0} → Rules P → PlainWorld P → PlainWorld P → ℕ → Request → Reply → Type 0
PlainCalls rules before after caller asked r =
    Calls rules (λ w. w ≡ world_of before) (λ w. w ≡ world_of after) caller asked r

-- A make on a `PlainWorld` has the result and the effect of the make on its plain world.
abbrev pub PlainMakes : {P : Type 0} → Rules P → PlainWorld P → PlainWorld P → Ty → P → Value → Result ℕ Refusal
    → Type 0
PlainMakes rules before after ty policy value r =
    Makes rules (λ w. w ≡ world_of before) (λ w. w ≡ world_of after) ty policy value r
