use Rattle.std.proofs.Common.{drop}
use Rattle.slot_table.specs.KeptRuns.{HaveOwnIndexes}
use Rattle.slot_table.proofs.change_forms.have_own_indexes.Given as goal

abbrev pub invariant-loop-run : goal.invariant-loop-run
invariant-loop-run l = HaveOwnIndexes l.at (drop l.run-index l.runs) → HaveOwnIndexes l.initial.at l.runs
