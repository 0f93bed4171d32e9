use Rattle.std.proofs.Common.{◌≡◌, ◌<◌, ℕ}
use Rattle.slot_table.specs.TableGroups.{group_at}
use Rattle.slot_table.proofs.changes.have_same_reads.Given as goal

abbrev pub invariant-loop-i : goal.invariant-loop-i
invariant-loop-i l = (k : ℕ) → k < l.i → (group_at l.other.groups k).reads ≡ (group_at l.table.groups k).reads
