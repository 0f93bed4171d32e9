use Rattle.std.proofs.Common.{drop}
use Rattle.std.specs.Vec.Iter.{into_iter_items}
use Rattle.slot_table.proofs.ShrunkItems.{IsSwept}
use Rattle.slot_table.proofs.runs.shrink_items.Given as goal

abbrev pub invariant-loop-run : goal.invariant-loop-run
invariant-loop-run g l = IsSwept l.initial.items.items (into_iter_items l.initial.fresh) l.runs l.items.items
    (into_iter_items l.fresh) l.at (drop l.run-index l.runs)
