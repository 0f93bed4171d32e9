use Rattle.std.proofs.Common.{◌≡◌, ◌≤◌, ◌-◌, ◌++◌, length}
use Rattle.rt_values.specs.Operators.{numbers_from}
use Rattle.rt_values.proofs.list.IntList.range.Given as goal

abbrev pub invariant-loop-next : goal.invariant-loop-next
invariant-loop-next l = (length l.items.items ≤ 4096)
    × (l.items.items ++ numbers_from (4096 - length l.items.items) l.next l.end ≡ numbers_from 4096 l.first l.end)

abbrev pub decreases-loop-next : goal.decreases-loop-next
decreases-loop-next l = 4096 - length l.items.items
