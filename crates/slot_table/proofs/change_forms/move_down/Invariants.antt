use Rattle.std.proofs.Common.{◌≤◌, drop}
use Rattle.slot_table.specs.KeptRuns.{MoveDown}
use Rattle.slot_table.proofs.change_forms.move_down.Given as goal

abbrev pub invariant-loop-run : goal.invariant-loop-run
invariant-loop-run l = record {
  low : l.at ≤ l.past;
  down : MoveDown l.at l.past (drop l.run-index l.runs) → MoveDown 0 0 l.runs;
}
