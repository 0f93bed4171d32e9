use Rattle.std.proofs.Common.{◌≡◌, ◌+◌, ◌≤◌, ◌<◌, ◌^◌, length, take}
use Rattle.node_tree.specs.Counting.{total, AreLevels, first_level}
use Rattle.node_tree.proofs.counts.sum_before.Given as goal

abbrev pub invariant-loop-level : goal.invariant-loop-level
invariant-loop-level l = record {
  levels : AreLevels (first_level l.rest) l.rest;
  sums : l.before + total (take l.at (first_level l.rest)) ≡ total (take l.index (first_level l.levels));
  inside : l.at ≤ length (first_level l.rest);
  few : total (take l.index (first_level l.levels)) < 2 ^ 63;
}

abbrev pub decreases-loop-level : goal.decreases-loop-level
decreases-loop-level l = length l.rest
