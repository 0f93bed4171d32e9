use Rattle.std.proofs.Common.{IfSome, IsSome}
use Rattle.slab.specs.Slab.{get}
use Rattle.snap_reuse.specs.Readers.{IsLowestUnread}
use Rattle.snap_reuse.proofs.reuse.lowest_unread.Given as goal

abbrev pub invariant-loop-i : goal.invariant-loop-i
invariant-loop-i l = record {
  is : IsLowestUnread l.chains l.x l.readers l.i l.best;
  there : IfSome l.best (λ b. IsSome (get l.chains.slots b.0));
}
