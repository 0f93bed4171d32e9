use Rattle.slot_table.proofs.ShrunkItems.{IsMoved}
use Rattle.slot_table.proofs.runs.move_items.Given as goal

abbrev pub invariant-loop-i : goal.invariant-loop-i
invariant-loop-i g l = IsMoved l.initial.items.items l.items.items l.at l.from l.i
