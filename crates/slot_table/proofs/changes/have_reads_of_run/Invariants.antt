use Rattle.std.proofs.Common.{◌≡◌, map, take, drop}
use Rattle.slot_table.proofs.changes.have_reads_of_run.Given as goal

abbrev pub invariant-loop-i : goal.invariant-loop-i
invariant-loop-i l = take l.i (drop l.at (map (λ g. g.reads) l.table.groups))
    ≡ take l.i (drop l.from (map (λ g. g.reads) l.table.groups))
