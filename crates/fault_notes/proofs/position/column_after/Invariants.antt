use Rattle.std.proofs.Common.{◌≡◌, ◌≤◌, ◌+◌, length}
use Rattle.fault_notes.specs.Lines.{column_after}
use Rattle.fault_notes.proofs.position.column_after.Given as goal

abbrev pub invariant-loop-byte : goal.invariant-loop-byte
invariant-loop-byte l =
    (l.column + length l.rest ≤ 1 + length l.bytes) × (column_after l.column l.rest ≡ column_after 1 l.bytes)

abbrev pub decreases-loop-byte : goal.decreases-loop-byte
decreases-loop-byte l = length l.rest
