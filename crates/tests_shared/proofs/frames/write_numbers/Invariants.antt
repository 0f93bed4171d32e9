use Rattle.snap_shared.specs.Seats.{IsSeat}
use Rattle.tests_shared.proofs.frames.write_numbers.Given as goal

abbrev pub invariant-loop-number : goal.invariant-loop-number
invariant-loop-number g l = IsSeat l.shared l.held
