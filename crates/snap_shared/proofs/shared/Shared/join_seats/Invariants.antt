use Rattle.std.proofs.Common.{◌≡◌, ◌++◌, length, List}
use Rattle.std.specs.List.{All}
use Rattle.std.specs.Vec.{vec_len}
use Rattle.snap_shared.specs.SeatSteps.{CoversSeat, IsJoinedSeat}
use Rattle.snap_shared.specs.Seats.{IsSeatOf}
use Rattle.snap_shared.proofs.shared.Shared.join_seats.Given as goal

abbrev pub invariant-loop-next : goal.invariant-loop-next
invariant-loop-next g l =
    (l.all.table_id ≡ l.self.table.shared.table_id)
    × All (λ x. IsSeatOf l.self.table.shared.table_id l.self.table.shared.key.world.value x.seat.table_id x.seat.me
    x.number) l.seats.items
    × ((done : List _) × (l.fn.seats.items ≡ l.seats.items ++ done)
    × IsJoinedSeat l.self.table.shared.key.world.value (length done) l.all.me
    × All (λ x. CoversSeat l.all.me.0 x.number x.seat.me.0.seen) done)

abbrev pub decreases-loop-next : goal.decreases-loop-next
decreases-loop-next g l = vec_len l.seats
