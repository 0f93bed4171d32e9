use Rattle.std.proofs.Common.{◌≡◌, ◌<◌, ℕ, length, get_or}
use Rattle.slot_table.specs.TableGroups.{group_at}
use Rattle.slot_table.proofs.change_forms.keep_depths.Given as goal

abbrev pub invariant-loop-i : goal.invariant-loop-i
invariant-loop-i l = (k : ℕ) → k < l.i → (get_or l.places k 0 < length l.table.groups)
    × ((group_at l.fresh k).depth ≡ (group_at l.table.groups (get_or l.places k 0)).depth)
