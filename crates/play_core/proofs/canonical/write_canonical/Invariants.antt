use Rattle.std.proofs.Common.{◌≡◌, ◌++◌, length, List, ℕ}
use Rattle.std.specs.Io.KnownBytes.{Appends}
use Rattle.sexp_text.specs.Layout.{lines}
use Rattle.sexp_text.specs.View.{forest_view}
use Rattle.play_core.proofs.canonical.write_canonical.Given as goal

abbrev pub invariant-loop-rest : goal.invariant-loop-rest
invariant-loop-rest g l = record {
  faults : g.K.Sink.faults l.sink ≡ g.K.Sink.faults l.fn.sink;
  wrote : (said : List ℕ) × (said ++ lines (forest_view l.rest) ≡ lines (forest_view l.trees))
      × Appends (g.K.Sink.written l.fn.sink) (g.K.Sink.written l.sink) said;
}

abbrev pub decreases-loop-rest : goal.decreases-loop-rest
decreases-loop-rest g l = length l.rest
