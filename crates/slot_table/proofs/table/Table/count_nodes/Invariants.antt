use Rattle.std.proofs.Common.{◌≡◌, ◌≤◌, ◌-◌, take, drop}
use Rattle.slot_table.specs.ChangeLists.{nodes_in}
use Rattle.slot_table.proofs.table.Table.count_nodes.Given as goal

abbrev pub invariant-loop-i : goal.invariant-loop-i
invariant-loop-i l = (l.from ≤ l.i) × (l.nodes ≡ nodes_in (take (l.i - l.from) (drop l.from l.self.groups)))
