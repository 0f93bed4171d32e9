use Rattle.std.proofs.Common.{◌≡◌, ℕ, ◌<◌, true, false, length}
use Rattle.std.specs.Prelude.{IfSome, IfNone}
use Rattle.snap_api.specs.World.{World}
use Rattle.snap_nested.specs.Members.{member, is_free}
use Rattle.snap_laws.specs.Represents.{Represents}
use Rattle.snap_world.specs.Holding.{world_parts}
use Rattle.snap_world.proofs.world.RecordWorld.forget_all.Given as goal

abbrev pub invariant-loop-next : goal.invariant-loop-next
invariant-loop-next g l = record {
  stays : (w : World _) → Represents (world_parts l.initial.self) w → Represents (world_parts l.self) w;
  within : IfSome l.next (λ n. n < length l.self.family.members);
  free : IfSome l.next (λ n. is_free l.self.family.members (member l.self.family.members n) ≡ true);
  none : IfNone l.next ((n : ℕ) → is_free l.self.family.members (member l.self.family.members n) ≡ false);
}

abbrev pub decreases-loop-next : goal.decreases-loop-next
decreases-loop-next g l = length l.self.family.held
