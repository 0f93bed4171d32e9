use Rattle.std.proofs.Common.{◌≡◌, ◌++◌, ◌∷◌, [], length, drop, vec_len}
use Rattle.rt_groups.specs.GroupForest.{GroupForest}
use Rattle.rt_groups.specs.PreorderGroups.{preorder}
use Rattle.run_causes.specs.OldMatches.{AreFoundBelow, level_of, queued_levels, olds_from}
use Rattle.run_causes.proofs.olds.find_olds.Given as goal

-- The old groups so far, and those that matching will find.
abbrev pub invariant-loop-i : goal.invariant-loop-i
invariant-loop-i l =
    (l.unmatched.table.now.groups ≡ l.old.groups)
    × (vec_len l.olds ≡ l.i)
    × AreFoundBelow (length l.old.groups) l.olds.items
    × ((before : GroupForest) → l.old.groups ≡ preorder 0 before →
    l.olds.items ++ olds_from before (queued_levels l.unmatched.levels.items) (drop l.i l.new.groups)
    ≡ olds_from before (level_of 0 before ∷ []) l.new.groups)
