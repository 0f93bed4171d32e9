-- Internal: the proof of a law of `RecordWorld`.
use Rattle.std.specs.Prelude.{◌≡◌, ℕ, length, List, Option}
use Rattle.std.specs.Option.{option_map}
use Rattle.std.proofs.Common.{ap, sym, ◌∙◌}
use Rattle.std.proofs.lemmas.List.{length-map}
use Rattle.snap_api.specs.World.{World}
use Rattle.snap_api.specs.declared.data.Object.{Object}
use Rattle.snap_laws.specs.Represents.{Represents, stamps_of}
use Rattle.snap_world.specs.Holding.{world_parts}
use Rattle.snap_world.specs.declared.world.RecordWorld.{RecordWorld}

-- The counts are those of each plain world that the value represents.
pub counts_of : {P : Type 0} (s : RecordWorld P) (w : World P) → Represents (world_parts s) w
    → (length s.objects.items ≡ length w.objects) × (length s.lasts.items ≡ length w.lasts)
counts_of {P} s w h = (
  ap (λ (os : List (Object P)). length os) (sym h.objects_are),
  sym (sym (length-map w.lasts (option_map stamps_of)) ∙ ap (λ (l : List (Option (List ℕ))). length l) h.lasts),
)
