use Rattle.std.proofs.Common.{◌≡◌, ◌≤◌, ◌+◌, length}
use Rattle.fault_notes.specs.Extents.{form_length, rest_of_form}
use Rattle.fault_notes.proofs.scanner.form_len.Given as goal

abbrev pub invariant-loop-byte : goal.invariant-loop-byte
invariant-loop-byte l =
    (l.depth ≤ l.length) × ((l.length + length l.rest ≡ length l.bytes)
    × (l.length + rest_of_form l.depth l.mode l.rest ≡ form_length l.bytes))

abbrev pub decreases-loop-byte : goal.decreases-loop-byte
decreases-loop-byte l = length l.rest
