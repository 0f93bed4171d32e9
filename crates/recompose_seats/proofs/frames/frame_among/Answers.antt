use Rattle.std.proofs.Common.{refl, subst}
use Rattle.recomposer.specs.Compositions.{IsAt}
use Rattle.snap_shared.specs.SeatDesk.{IsOnlyTaker}
use Rattle.snap_shared.specs.Seats.{seat_number, seen_by}
use Rattle.snap_shared.specs.declared.shared.Seat.{Seat}
use Rattle.recompose_seats.proofs.SeatFrames.{frame_ok, frame_err, no_tree_may, seat_returns}
use Rattle.recompose_seats.proofs.frames.frame_among.Goals as goal

pub frame-outcome-requires : goal.frame-outcome-requires
frame-outcome-requires g c = record { tree = no_tree_may _ _ c.requires.tree }

pub returns-clause-good : goal.returns-clause-good
returns-clause-good g c k types l may =
    let watcher = c.args.composition.now.watcher in
    let desk = c.frame-outcome.new.desk in
    let back = c.into_seat-seat.ensures.0 in
    let there = subst (λ (s : Seat g.row.W.Denot). IsOnlyTaker (seat_number s) watcher (seen_by s)) back may.2 in
    frame_ok g.W.P.Policy.rules g.W.Versions.stands c.args.view.shared.now desk.shared.now c.args.view.seat desk.seat
    c.into_seat-seat.result.0 watcher types c.frame-outcome.ensures.desk.lends.0 back c.frame-outcome.ensures.desk.caller
    may.2
    c.args.composition.now c.frame-outcome.new.self c.frame-outcome.ensures.settings.program c.frame-outcome.ensures.settings.watcher refl
    k _ c.frame-outcome.result (c.frame-outcome.ensures.good k types l may.0 may.1 there)

pub returns-clause-err : goal.returns-clause-err
returns-clause-err g c k types l may =
    let watcher = c.args.composition.now.watcher in
    let desk = c.frame-outcome.new.desk in
    let back = c.into_seat-seat.ensures.0 in
    let there = subst (λ (s : Seat g.row.W.Denot). IsOnlyTaker (seat_number s) watcher (seen_by s)) back may.2 in
    frame_err g.W.P.Policy.rules g.W.Versions.stands c.args.view.shared.now desk.shared.now c.args.view.seat desk.seat
    c.into_seat-seat.result.0 watcher types c.frame-outcome.ensures.desk.lends.0 back c.frame-outcome.ensures.desk.caller
    may.2
    c.args.composition.now.program.now k (IsAt c.frame-outcome.new.self) c.frame-outcome.result
    (c.frame-outcome.ensures.err k types l may.0 may.1 there)

pub returns-clause-returns : goal.returns-clause-returns
returns-clause-returns g c =
    let desk = c.frame-outcome.new.desk in
    seat_returns g.W.P.Policy.rules g.W.Versions.stands c.args.view.shared.now desk.shared.now c.args.view.seat
    desk.seat c.into_seat-seat.result.0 c.frame-outcome.ensures.desk.lends.0 c.into_seat-seat.ensures.0 desk.fits c.frame-outcome.ensures.desk.lends.1 c.frame-outcome.ensures.desk.lends.2

pub returns-clause-applier : goal.returns-clause-applier
returns-clause-applier g c = c.frame-outcome.ensures.applier

pub returns-clause-settings : goal.returns-clause-settings
returns-clause-settings g c = c.frame-outcome.ensures.settings
