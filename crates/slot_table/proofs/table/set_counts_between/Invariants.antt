use Rattle.std.proofs.Common.{◌≡◌, ◌≤◌, take, drop, length}
use Rattle.slot_table.specs.InnerCounts.{inner_counts, bare_groups}
use Rattle.slot_table.proofs.table.set_counts_between.Given as goal

abbrev pub invariant-loop-at : goal.invariant-loop-at
invariant-loop-at l = record {
  low : l.from ≤ l.at;
  high : l.at ≤ length l.heads.items;
  long : length l.counts ≡ length l.heads.items;
  known : drop l.at l.counts ≡ inner_counts (drop l.at (bare_groups l.heads.items));
  before : take l.from l.counts ≡ take l.from l.initial.counts;
}

abbrev pub decreases-loop-at : goal.decreases-loop-at
decreases-loop-at l = l.at
