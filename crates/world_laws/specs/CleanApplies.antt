-- Law: an apply that meets no other write is one step of a serial order.
use Rattle.std.specs.Prelude.{◌≡◌, ℕ, slice_get, Some, true, false}
use Rattle.rt_values.specs.Maps.{entry_at, value_at, contains}
use Rattle.snap_policy.specs.Rules.{Rules}
use Rattle.snap_api.specs.Valid.{IsValid}
use Rattle.snap_api.specs.World.{World, call, snapshot_of}
use Rattle.snap_api.specs.declared.data.Object.{Object}
use Rattle.snap_api.specs.declared.data.Reply.TheVariants as reply
use Rattle.snap_api.specs.declared.data.Request.TheVariants as request

-- A successful apply leaves the objects in the parent that the snapshot did not write. Of an object that the snapshot
-- wrote and that has the base's stamp in the parent, the parent gets the snapshot's stamped value, and the snapshot began
-- with the value that the parent has just before the apply.
abbrev pub CleanApplyIsSerial : {P : Type 0} → Rules P → Type 0
CleanApplyIsSerial {P} rules = (w : World P) (caller name x : ℕ) (o : Object P) → IsValid rules w →
    slice_get w.objects x ≡ Some o → (call rules w caller (request.Apply name)).1 ≡ reply.Applied →
    let own = snapshot_of w name in
    let parent = (snapshot_of w own.parent).view in
    let after = (snapshot_of (call rules w caller (request.Apply name)).0 own.parent).view in
    (contains x own.wrote ≡ false → entry_at after x ≡ entry_at parent x)
    × (contains x own.wrote ≡ true → (entry_at own.base x).stamp ≡ (entry_at parent x).stamp →
    (entry_at after x ≡ entry_at own.view x) × (value_at own.base x ≡ value_at parent x))
