-- Trusted: what contracts see of a shared world and of a seat.
use Rattle.std.specs.Prelude.{◌≡◌, ℕ, List, [], ◌∷◌, Option, Some}
use Rattle.atomic_table.specs.Table.{Me}
use Rattle.atomic_table.specs.Seated.{TableId}
use Rattle.snap_api.specs.declared.data.Entry.{Entry}
use Rattle.snap_shared.specs.declared.rule.Phase.TheVariants.{Idle}
use Rattle.snap_shared.specs.declared.rule.SeatState.{SeatState}
use Rattle.snap_shared.specs.declared.shared.Shared.{Shared}
use Rattle.snap_shared.specs.declared.shared.Seat.{Seat}
use Rattle.snap_shared.specs.SharedCalls.{own_calls}

-- The world at the start.
abbrev pub opening_of : {W P : Type 0} → Shared W P → W
opening_of s = s.table.shared.key.world.value

-- The number of seats.
abbrev pub count_of : {W P : Type 0} → Shared W P → ℕ
count_of s = s.table.shared.key.seats

-- The number of the seat's caller.
abbrev pub seat_number : {W : Type 0} → Seat W → ℕ
seat_number s = s.number

-- The history that the seat has seen (`seen`).
abbrev pub seen_by : {W : Type 0} → Seat W → List Entry
seen_by s = s.seat.me.0.seen

-- The seat's own calls (`mine`).
abbrev pub mine_of : {W : Type 0} → Seat W → List Entry
mine_of s = own_calls (seat_number s) (seen_by s)

-- The seat does not have the turn and does not hold the world. It belongs to this opening world and to this one caller,
-- whose own calls are those that the seat has seen.
abbrev pub IsAtRest : {W : Type 0} → W → ℕ → Me (Option W) (SeatState W Entry) → Type 0
IsAtRest opening number m = (m.0.phase ≡ Idle) × (m.0.opening ≡ Some opening)
    × (m.0.own ≡ (number, own_calls number m.0.seen) ∷ []) × (m.1 ≡ [])

-- The seat belongs to this table and is at rest.
abbrev pub IsSeatOf : {W : Type 0} → TableId → W → TableId → Me (Option W) (SeatState W Entry) → ℕ → Type 0
IsSeatOf table opening its m number = (its ≡ table) × IsAtRest opening number m

-- A seat at rest that has seen nothing.
abbrev pub IsNewSeatOf : {W : Type 0} → TableId → W → TableId → Me (Option W) (SeatState W Entry) → ℕ → Type 0
IsNewSeatOf table opening its m number = IsSeatOf table opening its m number × (m.0.seen ≡ [])

-- The seat belongs to this shared world and is at rest: a call on the shared world may begin.
abbrev pub IsSeat : {W P : Type 0} → Shared W P → Seat W → Type 0
IsSeat shared s = IsSeatOf shared.table.shared.table_id (opening_of shared) s.seat.table_id s.seat.me s.number

-- A seat of this shared world that has made and seen no call.
abbrev pub IsNewSeat : {W P : Type 0} → Shared W P → Seat W → Type 0
IsNewSeat shared s = IsSeat shared s × (seen_by s ≡ [])
