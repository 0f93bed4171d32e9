use Rattle.std.proofs.Common.{◌≡◌, ◌++◌, ◌-◌, length, drop, List, ℕ, []}
use Rattle.std.specs.Io.KnownBytes.{Appends}
use Rattle.script_lang.specs.GroupLines.{group_lines}
use Rattle.play_run.proofs.frame.write_tree.Given as goal

abbrev pub invariant-loop-i : goal.invariant-loop-i
invariant-loop-i g l = record {
  faults : g.K.Sink.faults l.sink ≡ g.K.Sink.faults l.fn.sink;
  wrote : (said : List ℕ) × (said ++ group_lines l.open_groups (drop l.i l.table.groups)
      ≡ group_lines [] l.table.groups) × Appends (g.K.Sink.written l.fn.sink) (g.K.Sink.written l.sink) said;
}

abbrev pub decreases-loop-i : goal.decreases-loop-i
decreases-loop-i g l = length l.table.groups - l.i
