use Rattle.std.specs.Vec.Iter.{into_iter_items}
use Rattle.slot_table.proofs.ShrunkItems.{IsPut}
use Rattle.slot_table.proofs.runs.put_items.Given as goal

abbrev pub invariant-loop-i : goal.invariant-loop-i
invariant-loop-i g l = IsPut l.initial.items.items l.items.items (into_iter_items l.initial.fresh)
    (into_iter_items l.fresh) l.at l.count l.i
