use Rattle.snap_shared.specs.Seats.{IsSeat}
use Rattle.tests_shared.proofs.frames.make_frames.Given as goal

abbrev pub invariant-loop : goal.invariant-loop
invariant-loop g l = IsSeat l.shared l.held
