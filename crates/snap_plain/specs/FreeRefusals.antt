-- Trusted: the refusals that take no memory.
use Rattle.std.specs.Prelude.{◌≡◌, ℕ, true, Some, slice_get}
use Rattle.rt_values.specs.Maps.{value_at, contains}
use Rattle.rt_values.specs.declared.value.Value.{Value}
use Rattle.snap_policy.specs.Rules.{Rules}
use Rattle.snap_api.specs.World.{World, call, snapshot_of}
use Rattle.snap_api.specs.declared.data.Object.{Object}
use Rattle.snap_api.specs.declared.data.Refusal.{Refusal}
use Rattle.snap_api.specs.declared.data.Refusal.TheVariants as refusal
use Rattle.snap_api.specs.declared.data.Reply.{Reply}
use Rattle.snap_api.specs.declared.data.Reply.TheVariants as reply
use Rattle.snap_api.specs.declared.data.Request.{Request}
use Rattle.snap_api.specs.declared.data.Request.TheVariants as request

-- If the plain world refuses a call, the reply is that refusal: a refusal takes no memory.
abbrev pub RefusesFreely : {P : Type 0} → Rules P → World P → ℕ → Request → Reply → Type 0
RefusesFreely rules w caller asked r =
    (e : Refusal) → (call rules w caller asked).1 ≡ reply.Refused e → r ≡ reply.Refused e

-- No merge of an object that the snapshot wrote takes memory.
abbrev pub MergesAreFree : {P : Type 0} → (P → Value → Value → Value → Type 0) → World P → ℕ → Type 0
MergesAreFree {P} is_free w name =
    let s = snapshot_of w name in
    (x : ℕ) (o : Object P) → slice_get w.objects x ≡ Some o → contains x s.wrote ≡ true →
    is_free o.policy (value_at s.base x) (value_at (snapshot_of w s.parent).view x) (value_at s.view x)

-- A refusal of an apply that takes no memory: each one except a conflict where a merge takes memory.
abbrev pub IsFreeRefusal : {P : Type 0} → (P → Value → Value → Value → Type 0) → World P → ℕ → Refusal → Type 0
IsFreeRefusal is_free w name (refusal.Conflict x) = MergesAreFree is_free w name
IsFreeRefusal is_free w name _ = Unit {0}

-- If the plain world refuses an apply, the reply is that refusal, unless a merge took memory to find a conflict.
abbrev pub ApplyRefusesFreely : {P : Type 0} → Rules P → (P → Value → Value → Value → Type 0) → World P → ℕ → ℕ
    → Reply → Type 0
ApplyRefusesFreely rules is_free w caller name r =
    (e : Refusal) → (call rules w caller (request.Apply name)).1 ≡ reply.Refused e
    → IsFreeRefusal is_free w name e → r ≡ reply.Refused e
