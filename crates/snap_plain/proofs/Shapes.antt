-- Lemma: each snapshot has a stamped value for each object.
use Rattle.std.proofs.Common.{◌≡◌, ℕ, ◌+◌, List, map, sym, subst}
use Rattle.rt_values.specs.declared.maps.StampedValue.{StampedValue}
use Rattle.snap_api.proofs.Valid.{shaped-world_after_make}
use Rattle.snap_api.specs.Shaped.{AreShaped}
use Rattle.snap_api.specs.World.{with_object}
use Rattle.snap_api.specs.declared.data.Snapshot.{Snapshot}

-- After a make each snapshot has a stamped value for the new object too.
pub shaped_made : (n m : ℕ) (old new : List Snapshot) (e : StampedValue) → m ≡ n + 1 → new ≡ map (with_object e) old
    → AreShaped n old → AreShaped m new
shaped_made n m old new e more is full = subst (AreShaped m) (sym is)
    (subst (λ k. AreShaped k (map (with_object e) old)) (sym more) (shaped-world_after_make n old e full))
