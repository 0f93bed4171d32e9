use Rattle.std.proofs.Common.{◌≡◌, ◌++◌, take, drop}
use Rattle.node_tree.specs.Counting.{levels_after}
use Rattle.node_tree.proofs.counts.subtract_one.Given as goal

abbrev pub invariant-loop-level : goal.invariant-loop-level
invariant-loop-level l = take l.level-index l.levels ++ levels_after l.at (drop l.level-index l.levels)
    ≡ levels_after l.index l.initial.levels
