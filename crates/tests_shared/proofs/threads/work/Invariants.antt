use Rattle.snap_shared.specs.Seats.{IsSeat}
use Rattle.tests_shared.proofs.threads.work.Given as goal

abbrev pub invariant-loop : goal.invariant-loop
invariant-loop g l = IsSeat l.shared l.seat
