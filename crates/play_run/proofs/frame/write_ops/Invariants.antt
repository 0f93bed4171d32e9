use Rattle.std.proofs.Common.{◌≡◌, ◌++◌, length, List, ℕ}
use Rattle.std.specs.Io.KnownBytes.{Appends}
use Rattle.std.specs.List.{flat_map}
use Rattle.script_lang.specs.Lines.{op_line}
use Rattle.play_run.proofs.frame.write_ops.Given as goal

abbrev pub invariant-loop-op : goal.invariant-loop-op
invariant-loop-op g l = record {
  faults : g.K.Sink.faults l.sink ≡ g.K.Sink.faults l.fn.sink;
  wrote : (said : List ℕ) × (said ++ flat_map op_line l.rest ≡ flat_map op_line l.ops)
      × Appends (g.K.Sink.written l.fn.sink) (g.K.Sink.written l.sink) said;
}

abbrev pub decreases-loop-op : goal.decreases-loop-op
decreases-loop-op g l = length l.rest
