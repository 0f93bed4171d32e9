use Rattle.std.proofs.Common.{◌≤◌, ◌<◌, ℕ}
use Rattle.slot_table.specs.TableGroups.{group_at}
use Rattle.slot_table.specs.InnerCounts.{bare_groups}
use Rattle.slot_table.proofs.table.first_recount.Given as goal

abbrev pub invariant-loop-i : goal.invariant-loop-i
invariant-loop-i l = (k : ℕ) → l.from ≤ k → k < l.i
    → l.depth ≤ (group_at (bare_groups l.heads.items) k).depth
