use Rattle.std.proofs.Common.{◌≡◌, ◌<◌, ◌++◌, ◌∷◌, [], true, drop, vec_len}
use Rattle.run_causes.specs.TableCauses.{found_marks}
use Rattle.run_causes.proofs.finding.find_marks.Given as goal

-- The marks so far, and those of the groups that are left.
abbrev pub invariant-loop-i : goal.invariant-loop-i
invariant-loop-i l =
    (0 < vec_len l.runs)
    × (l.marks.items ++ found_marks l.owed l.old.groups l.runs.items (drop l.i l.olds.items) (drop l.i l.new.groups)
    ≡ found_marks l.owed l.old.groups (true ∷ []) l.olds.items l.new.groups)
