use Rattle.std.proofs.Common.{◌≡◌, ◌≤◌, ◌+◌, ◌-◌, drop, length}
use Rattle.slot_table.specs.InnerCounts.{leading_deep, bare_groups}
use Rattle.slot_table.proofs.table.count_inside.Given as goal

abbrev pub invariant-loop-next : goal.invariant-loop-next
invariant-loop-next l =
    (l.i + 1 ≤ l.next) × (l.next ≤ length (bare_groups l.heads.items))
    × ((l.next - (l.i + 1)) + length (leading_deep (l.depth + 1) (drop l.next (bare_groups l.heads.items)))
    ≡ length (leading_deep (l.depth + 1) (drop (l.i + 1) (bare_groups l.heads.items))))

abbrev pub decreases-loop-next : goal.decreases-loop-next
decreases-loop-next l = length l.heads.items - l.next
