use Rattle.std.proofs.Common.{◌≡◌}
use Rattle.tests_slots.proofs.changes.changes_to.Given as goal

abbrev pub invariant-loop-from : goal.invariant-loop-from
invariant-loop-from l = l.writer.olds ≡ l.table.groups
