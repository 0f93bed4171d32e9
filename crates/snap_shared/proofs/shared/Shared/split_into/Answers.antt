use Rattle.std.proofs.Common.{arith, ◌≡◌, ℕ, suc, ◌+◌, ◌-◌, ◌∙◌, ap, sym, refl}
use Rattle.std.proofs.lemmas.List.Elements.{All-push, All-same}
use Rattle.snap_shared.specs.declared.shared.Seat.{Seat}
use Rattle.snap_shared.specs.SharedCalls.{numbers_below}
use Rattle.snap_shared.specs.SeatSteps.{state_with_callers}
use Rattle.snap_shared.specs.Seats.{IsNewSeatOf}
use Rattle.snap_shared.specs.Histories.{caller_of, IsWorldAfter}
use Rattle.snap_shared.proofs.SplitSeats.{cut_rests, cut_rest, split_numbers, numbers_length}
use Rattle.snap_shared.proofs.SplitStates.{splits_seat}
use Rattle.snap_shared.proofs.shared.Shared.split_into.Goals as goal

pub split_seat-seat-requires : goal.split_seat-seat-requires
split_seat-seat-requires g c =
    let inv = c.loop-number.invariant in (
      inv.0,
      omega (arith, c.args.self.now.words),
      splits_seat caller_of g.W.Versions.log (IsWorldAfter g.W.P.Policy.rules g.W.Versions.stands)
          c.args.self.now.table.shared.key.world.value c.args.self.now.table.shared.key.seats c.loop-number.first.id
          c.loop-number.first.me.0 (ap (λ m. m.0.phase) inv.1),
    )

pub loop-number-preserved : goal.loop-number-preserved
loop-number-preserved g c =
    let inv = c.loop-number.invariant in
    let key = c.args.self.now.table.shared.key.world.value in
    let k = c.loop-number.number in
    let n = c.args.count - (k + 1) in
    let view = ap (λ m. m.0) inv.1 in
    let less = c.loop-number-test.true in
    let long : c.args.count - k ≡ suc n = omega (arith, less, inv.5) in
    let whole = view ∙ ap (λ x. state_with_callers key k x) long in
    let own = cut_rests key k n c.split_seat-seat.result.me c.loop-number.first.me.0 whole
    c.split_seat-seat.ensures.4 in (
      c.split_seat-seat.ensures.0 ∙ inv.0,
      cut_rest key k n c.split_seat-seat.new.seat.me c.loop-number.first.me.0 c.loop-number.first.me.1 whole
          (ap (λ m. m.1) inv.1) c.split_seat-seat.ensures.2,
      All-same (λ (x : Seat g.row.W.Denot). IsNewSeatOf c.args.self.now.table.shared.table_id key x.seat.table_id
          x.seat.me x.number) _ _ c.in-Ok.ensures
          (All-push (λ (x : Seat g.row.W.Denot). IsNewSeatOf c.args.self.now.table.shared.table_id key x.seat.table_id
          x.seat.me x.number) c.loop-number.seats.items _ inv.2
          ((c.split_seat-seat.ensures.3 ∙ inv.0, own.0), own.1)),
      split_numbers (λ (x : Seat g.row.W.Denot). x.number) c.push_seat.new.seats.items c.loop-number.seats.items _ k
          c.in-Ok.ensures refl inv.3,
      omega (arith, less),
      inv.5,
    )

pub returns-clause-numbers : goal.returns-clause-numbers
returns-clause-numbers g c =
    let inv = c.loop-number.invariant in
    let past = c.loop-number-test.false in
    let same : c.loop-number.number ≡ c.args.count - 1 = omega (arith, past, inv.4, inv.5) in
    let last : c.args.count - 1 + 1 ≡ c.args.count = omega (arith, c.requires.some) in
    split_numbers (λ (x : Seat g.row.W.Denot). x.number) c.push_seat-2.new.seats.items c.loop-number.seats.items _
    c.loop-number.number c.in-Ok-push_seat.ensures (sym same) inv.3
    ∙ ap numbers_below (ap (λ (k : ℕ). k + 1) same ∙ last)

pub returns-clause-many : goal.returns-clause-many
returns-clause-many g c = numbers_length (λ (x : Seat g.row.W.Denot). x.number) c.push_seat-2.new.seats.items
    c.args.count (returns-clause-numbers g c)
