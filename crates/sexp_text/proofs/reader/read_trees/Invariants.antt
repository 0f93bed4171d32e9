use Rattle.std.proofs.Common.{◌≤◌, ◌-◌, length}
use Rattle.sexp_text.specs.Machine.{Rests, lists, trees}
use Rattle.sexp_text.proofs.reader.read_trees.Given as goal

abbrev pub invariant-loop-at : goal.invariant-loop-at
invariant-loop-at l = record {
  within : l.at ≤ length l.bytes;
  here : Rests l.bytes l.at (lists l.reader) (trees l.reader);
}

abbrev pub decreases-loop-at : goal.decreases-loop-at
decreases-loop-at l = length l.bytes - l.at
