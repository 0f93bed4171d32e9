-- Internal: the proof of a law of `PlainWorld`.
use Rattle.std.specs.Prelude.{◌≡◌, length}
use Rattle.std.proofs.Common.{ap, sym}
use Rattle.snap_api.specs.World.{World}
use Rattle.snap_plain.specs.Plain.{world_of}
use Rattle.snap_plain.specs.declared.world.PlainWorld.{PlainWorld}

-- The counts of a `PlainWorld` are those of its plain world.
pub counts_of : {P : Type 0} (s : PlainWorld P) (w : World P) → w ≡ world_of s
    → (length s.objects.items ≡ length w.objects) × (length s.lasts.items ≡ length w.lasts)
counts_of s w h = (ap (λ (v : World _). length v.objects) (sym h), ap (λ (v : World _). length v.lasts) (sym h))
