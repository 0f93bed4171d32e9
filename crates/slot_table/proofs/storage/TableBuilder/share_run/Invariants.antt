use Rattle.std.proofs.Common.{◌≡◌, ◌≤◌, ◌-◌, ◌++◌, take, drop}
use Rattle.slot_table.proofs.storage.TableBuilder.share_run.Given as goal

abbrev pub invariant-loop-i : goal.invariant-loop-i
invariant-loop-i l = (l.from ≤ l.i) × (l.groups ≡ l.initial.groups ++ take (l.i - l.from) (drop l.from l.self))
