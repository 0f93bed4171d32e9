use Rattle.std.proofs.Common.{◌≡◌, ◌-◌, ◌≤◌, map, []}
use Rattle.std.specs.List.{All}
use Rattle.snap_shared.specs.SharedCalls.{numbers_below}
use Rattle.snap_shared.specs.SeatSteps.{state_with_callers}
use Rattle.snap_shared.specs.Seats.{IsNewSeatOf}
use Rattle.snap_shared.proofs.shared.Shared.split_into.Given as goal

abbrev pub invariant-loop-number : goal.invariant-loop-number
invariant-loop-number g l =
    (l.first.table_id ≡ l.self.table.shared.table_id)
    × (l.first.me ≡ (state_with_callers l.self.table.shared.key.world.value l.number (l.count - l.number), []))
    × All (λ x. IsNewSeatOf l.self.table.shared.table_id l.self.table.shared.key.world.value x.seat.table_id x.seat.me
    x.number) l.seats.items
    × (map (λ x. x.number) l.seats.items ≡ numbers_below l.number)
    × (l.number ≤ l.number-end)
    × (l.number-end ≡ l.count - 1)
