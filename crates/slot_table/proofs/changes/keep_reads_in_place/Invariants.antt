use Rattle.std.proofs.Common.{◌≡◌, ◌<◌, ℕ, get_or}
use Rattle.slot_table.specs.TableGroups.{group_at}
use Rattle.slot_table.proofs.changes.keep_reads_in_place.Given as goal

abbrev pub invariant-loop-i : goal.invariant-loop-i
invariant-loop-i l = (k : ℕ) → k < l.i
    → (group_at l.fresh k).reads ≡ (group_at l.table.groups (get_or l.places k 0)).reads
