use Rattle.std.proofs.Common.{ℕ, subst, sym, IfOk, Some}
use Rattle.recomposer.specs.Compositions.{BeginsFrame, GrowsFor, IsAt}
use Rattle.snap_shared.specs.SeatDesk.{IsOnlyTaker}
use Rattle.snap_shared.specs.Seats.{seat_number, seen_by, mine_of}
use Rattle.snap_shared.specs.declared.shared.Seat.{Seat}
use Rattle.recompose_seats.specs.SeatFrames.{HasLast, ShowsIn, HasTaken}
use Rattle.recompose_seats.proofs.SeatFrames.{begun_ok, last_stays, take_back, seat_returns}
use Rattle.recompose_seats.proofs.frames.begin_among.Goals as goal

pub returns-clause-good : goal.returns-clause-good
returns-clause-good g c k types l may =
    let watcher = c.args.composition.now.watcher in
    let desk = c.begin-outcome.new.desk in
    let back = c.into_seat-seat.ensures.0 in
    let there = subst (λ (s : Seat g.row.W.Denot). IsOnlyTaker (seat_number s) watcher (seen_by s)) back may.2 in
    let begun = begun_ok g.W.P.Policy.rules g.W.Versions.stands c.args.view.shared.now desk.shared.now c.args.view.seat
    desk.seat c.into_seat-seat.result.0 watcher types c.begin-outcome.ensures.desk.lends.0 back
    c.begin-outcome.ensures.desk.caller may.2
    (IsAt c.begin-outcome.new.self k) l desk.opened c.begin-outcome.result c.begin-outcome.ensures.opened.name
    c.begin-outcome.ensures.take (c.begin-outcome.ensures.frame.good k types l may.0 may.1 there) in
    subst (λ (n : ℕ). IfOk c.begin-outcome.result
    (λ b. BeginsFrame (IsAt c.begin-outcome.new.self k)
    (λ m. ShowsIn g.W.P.Policy.rules g.W.Versions.stands c.args.view.shared.now c.into_seat-seat.result.0 b.name
    m)
    (λ o. HasTaken g.W.P.Policy.rules g.W.Versions.stands c.args.view.shared.now c.args.view.seat
    c.into_seat-seat.result.0 n types o) l b.name b.changed)) (sym c.begin-outcome.ensures.calls.settings.watcher) begun

pub returns-clause-returns : goal.returns-clause-returns
returns-clause-returns g c =
    let desk = c.begin-outcome.new.desk in
    seat_returns g.W.P.Policy.rules g.W.Versions.stands c.args.view.shared.now desk.shared.now c.args.view.seat
    desk.seat c.into_seat-seat.result.0 c.begin-outcome.ensures.desk.lends.0 c.into_seat-seat.ensures.0 desk.fits c.begin-outcome.ensures.desk.lends.1 c.begin-outcome.ensures.desk.lends.2

pub returns-clause-stops : goal.returns-clause-stops
returns-clause-stops g c = c.begin-outcome.ensures.stops

pub returns-clause-calls : goal.returns-clause-calls
returns-clause-calls g c = c.begin-outcome.ensures.calls

pub returns-clause-take : goal.returns-clause-take
returns-clause-take g c =
    take_back (HasLast g.W.P.Policy.rules g.W.Versions.stands c.args.view.shared.now c.args.view.seat
    c.args.composition.now.watcher) c.args.view.seat c.begin-outcome.new.desk.seat c.into_seat-seat.result.0
    c.args.composition.now.watcher c.begin-outcome.result c.into_seat-seat.ensures.0 c.begin-outcome.ensures.take

pub returns-clause-draws : goal.returns-clause-draws
returns-clause-draws g c =
    subst (λ (s : Seat g.row.W.Denot). GrowsFor c.args.composition.now.watcher (Some (mine_of c.args.view.seat))
    (Some (mine_of s))) (sym c.into_seat-seat.ensures.0) c.begin-outcome.ensures.draws

pub returns-clause-last : goal.returns-clause-last
returns-clause-last g c k types l may =
    let watcher = c.args.composition.now.watcher in
    let desk = c.begin-outcome.new.desk in
    let back = c.into_seat-seat.ensures.0 in
    let there = subst (λ (s : Seat g.row.W.Denot). IsOnlyTaker (seat_number s) watcher (seen_by s)) back may.2 in
    last_stays g.W.P.Policy.rules g.W.Versions.stands c.args.view.shared.now desk.shared.now c.args.view.seat desk.seat
    c.into_seat-seat.result.0 watcher types c.begin-outcome.ensures.desk.lends.0 back
    c.begin-outcome.ensures.desk.caller may.2 l c.begin-outcome.result
    (c.begin-outcome.ensures.frame.stays types l may.1 there)
