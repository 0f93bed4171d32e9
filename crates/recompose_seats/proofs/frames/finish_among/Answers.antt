use Rattle.std.proofs.Common.{ℕ, sym, subst, Option, Some}
use Rattle.snap_shared.specs.SeatDesk.{SeesMap, IsOnlyTaker, objects_read}
use Rattle.snap_shared.specs.Seats.{opening_of, seat_number, seen_by, mine_of}
use Rattle.snap_shared.specs.declared.shared.Seat.{Seat}
use Rattle.recomposer.specs.FrameContracts.{ComposesShown, DrivesApplier, AsksOwed, LogsEnd}
use Rattle.recomposer.proofs.Stops.{may_be_called}
use Rattle.recompose_seats.proofs.SeatFrames.{last_back, seat_returns}
use Rattle.recompose_seats.proofs.frames.finish_among.Goals as goal

pub finish-outcome-requires-clause-tree : goal.finish-outcome-requires-clause-tree
finish-outcome-requires-clause-tree g c =
    let seat = c.args.view.seat in
    may_be_called _ _ _ c.requires.tree (λ k at. (
      at.0,
      at.1.0,
      subst (λ (o : Option ℕ). SeesMap g.W.P.Policy.rules (g.W.Versions.stands (opening_of c.args.view.shared.now))
          (seen_by seat) (seat_number seat) o at.0) (sym c.requires.opened) at.1.1,
    ))

pub returns-clause-returns : goal.returns-clause-returns
returns-clause-returns g c =
    let desk = c.finish-outcome.new.desk in
    seat_returns g.W.P.Policy.rules g.W.Versions.stands c.args.view.shared.now desk.shared.now c.args.view.seat
    desk.seat c.into_seat-seat.result.0 c.finish-outcome.ensures.desk.same.lends.0 c.into_seat-seat.ensures.0 desk.fits c.finish-outcome.ensures.desk.same.lends.1 c.finish-outcome.ensures.desk.same.lends.2

pub returns-clause-frame : goal.returns-clause-frame
returns-clause-frame g c =
    let old = c.args.composition.now in
    subst (λ (o : Option ℕ). ComposesShown old c.finish-outcome.new.self
    (λ m. SeesMap g.W.P.Policy.rules (g.W.Versions.stands (opening_of c.args.view.shared.now)) (seen_by c.args.view.seat)
    (seat_number c.args.view.seat) o m) c.finish-outcome.result) c.requires.opened c.finish-outcome.ensures.frame

pub returns-clause-applier : goal.returns-clause-applier
returns-clause-applier g c =
    let old = c.args.composition.now in
    subst (λ (o : Option ℕ). DrivesApplier g.A.Applier.tree g.A.Applier.faults c.args.applier.now
    c.finish-outcome.new.applier old c.finish-outcome.new.self
    (λ m. SeesMap g.W.P.Policy.rules (g.W.Versions.stands (opening_of c.args.view.shared.now)) (seen_by c.args.view.seat)
    (seat_number c.args.view.seat) o m) c.finish-outcome.result) c.requires.opened c.finish-outcome.ensures.applier

pub returns-clause-reads : goal.returns-clause-reads
returns-clause-reads g c =
    let old = c.args.composition.now in
    let back = sym c.into_seat-seat.ensures.0 in
    let asked = objects_read (mine_of c.args.view.seat) in
    subst (λ (o : Option ℕ). AsksOwed old
    (λ m. SeesMap g.W.P.Policy.rules (g.W.Versions.stands (opening_of c.args.view.shared.now)) (seen_by c.args.view.seat)
    (seat_number c.args.view.seat) o m) asked (objects_read (mine_of c.into_seat-seat.result.0)) c.finish-outcome.result) c.requires.opened
    (subst (λ (s : Seat g.row.W.Denot). AsksOwed old
    (λ m. SeesMap g.W.P.Policy.rules (g.W.Versions.stands (opening_of c.args.view.shared.now)) (seen_by c.args.view.seat)
    (seat_number c.args.view.seat) c.args.view.opened m) asked (objects_read (mine_of s)) c.finish-outcome.result) back c.finish-outcome.ensures.reads)

pub returns-clause-log : goal.returns-clause-log
returns-clause-log g c =
    let old = c.args.composition.now in
    let back = sym c.into_seat-seat.ensures.0 in
    let mine = mine_of c.args.view.seat in
    let snapshot : ℕ × ℕ = (seat_number c.args.view.seat, c.args.begun.name) in
    subst (λ (o : Option ℕ). LogsEnd old
    (λ m. SeesMap g.W.P.Policy.rules (g.W.Versions.stands (opening_of c.args.view.shared.now)) (seen_by c.args.view.seat)
    (seat_number c.args.view.seat) o m) (objects_read mine) (objects_read (mine_of c.into_seat-seat.result.0)) (Some mine)
    (Some (mine_of c.into_seat-seat.result.0)) snapshot c.finish-outcome.result) c.requires.opened
    (subst (λ (s : Seat g.row.W.Denot). LogsEnd old
    (λ m. SeesMap g.W.P.Policy.rules (g.W.Versions.stands (opening_of c.args.view.shared.now)) (seen_by c.args.view.seat)
    (seat_number c.args.view.seat) c.args.view.opened m) (objects_read mine) (objects_read (mine_of s)) (Some mine) (Some (mine_of s)) snapshot
    c.finish-outcome.result) back c.finish-outcome.ensures.log)

pub returns-clause-last : goal.returns-clause-last
returns-clause-last g c n types l last only =
    let desk = c.finish-outcome.new.desk in
    let back = c.into_seat-seat.ensures.0 in
    last_back g.W.P.Policy.rules g.W.Versions.stands c.args.view.shared.now desk.shared.now c.args.view.seat desk.seat
    c.into_seat-seat.result.0 n types c.finish-outcome.ensures.desk.same.lends.0 back
    c.finish-outcome.ensures.desk.same.caller only l
    (c.finish-outcome.ensures.desk.last n types l last
    (subst (λ (s : Seat g.row.W.Denot). IsOnlyTaker (seat_number s) n (seen_by s)) back only))
