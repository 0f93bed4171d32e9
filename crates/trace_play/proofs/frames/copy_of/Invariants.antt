use Rattle.std.proofs.Common.{◌≡◌, ◌++◌, drop}
use Rattle.trace_play.proofs.frames.copy_of.Given as goal

-- The groups so far, and those that are left.
abbrev pub invariant-loop-i : goal.invariant-loop-i
invariant-loop-i l = l.groups ++ drop l.i l.table.groups ≡ l.table.groups
