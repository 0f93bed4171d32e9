use Rattle.std.proofs.Common.{◌≡◌, ◌≤◌, ◌+◌, ◌++◌, length, drop}
use Rattle.slot_table.specs.KeptRuns.{patched, gaps, AreInside}
use Rattle.slot_table.proofs.changes.share_all.Given as goal

abbrev pub invariant-loop-run : goal.invariant-loop-run
invariant-loop-run l = record {
  inside : AreInside l.table.groups (drop l.run-index l.runs);
  fits : l.next + gaps (drop l.run-index l.runs) ≤ length l.fresh;
  shared : l.groups ++ patched l.table.groups (drop l.next l.fresh) (drop l.run-index l.runs)
      ≡ l.initial.groups ++ patched l.table.groups l.fresh l.runs;
}
