use Rattle.std.proofs.Common.{◌≡◌, ◌≤◌, length, drop}
use Rattle.slot_table.specs.KeptRuns.{set_all}
use Rattle.slot_table.proofs.changes.set_sharing.Given as goal

abbrev pub invariant-loop-i : goal.invariant-loop-i
invariant-loop-i l =
    (l.i ≤ length l.fresh) × (l.groups ≡ set_all l.initial.groups (drop l.i l.places) (drop l.i l.fresh))

abbrev pub decreases-loop-i : goal.decreases-loop-i
decreases-loop-i l = l.i
