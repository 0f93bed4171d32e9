use Rattle.std.proofs.Common.{◌≡◌, ◌≤◌, ◌+◌, length}
use Rattle.fault_notes.specs.Lines.{line_after}
use Rattle.fault_notes.proofs.position.line_after.Given as goal

abbrev pub invariant-loop-byte : goal.invariant-loop-byte
invariant-loop-byte l =
    (l.line + length l.rest ≤ 1 + length l.bytes) × (line_after l.line l.rest ≡ line_after 1 l.bytes)

abbrev pub decreases-loop-byte : goal.decreases-loop-byte
decreases-loop-byte l = length l.rest
