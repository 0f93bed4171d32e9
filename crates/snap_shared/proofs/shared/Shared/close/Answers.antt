use Rattle.std.proofs.Common.{◌≡◌, ◌∙◌, ap, sym, subst, Some}
use Rattle.std.proofs.lemmas.List.Elements.{All-weaker}
use Rattle.snap_shared.specs.declared.shared.Seat.{Seat}
use Rattle.snap_shared.specs.SharedCalls.{ContainsSeat}
use Rattle.snap_shared.specs.SeatSteps.{CoversSeat}
use Rattle.snap_shared.specs.Histories.{caller_of, IsWorldAfter}
use Rattle.snap_shared.proofs.ClosedTables.{found_world}
use Rattle.snap_shared.proofs.JoinedSeats.{contains_seat}
use Rattle.snap_shared.proofs.shared.Shared.close.Goals as goal

pub unreachable-requires : goal.unreachable-requires
unreachable-requires g c =
    let all = c.join_seats-all.ensures.joined in
    let e = found_world caller_of g.W.Versions.log (IsWorldAfter g.W.P.Policy.rules g.W.Versions.stands)
    c.args.self.table.shared.key.world.value c.args.self.table.shared.key.seats c.join_seats-all.result.id
    c.join_seats-all.result.me.0 _ _ c.take-home.result all.idle (all.many ∙ c.requires.count)
    c.close_with-closed.ensures.values.2 c.take-home.ensures.value in
    c.in_default.not-Some e.world e.is

pub returns : goal.returns
returns g c =
    let all = c.join_seats-all.ensures.joined in
    let leads_to = IsWorldAfter g.W.P.Policy.rules g.W.Versions.stands in
    let e = found_world caller_of g.W.Versions.log leads_to c.args.self.table.shared.key.world.value
    c.args.self.table.shared.key.seats c.join_seats-all.result.id c.join_seats-all.result.me.0 _ _
    c.take-home.result all.idle (all.many ∙ c.requires.count) c.close_with-closed.ensures.values.2
    c.take-home.ensures.value in
    let found : Some e.world ≡ Some c.in-Some.world = sym e.is ∙ c.in-Some.is in
    let same : e.world ≡ c.in-Some.world = cc in
    record {
      ended = (
        e.log,
        ap g.W.Versions.log (sym same) ∙ e.log_is,
        subst (λ (w : g.row.W.Denot). leads_to c.args.self.table.shared.key.world.value e.log w) same e.leads,
        All-weaker (λ (x : Seat g.row.W.Denot). CoversSeat c.join_seats-all.result.me.0 x.number x.seat.me.0.seen)
            (λ (x : Seat g.row.W.Denot). ContainsSeat e.log x.number x.seat.me.0.seen)
            (λ (x : Seat g.row.W.Denot) h. contains_seat c.join_seats-all.result.me.0 e.log e.begins e.own x.number
            x.seat.me.0.seen h) c.args.seats.items c.join_seats-all.ensures.all,
        e.outside,
      );
    }
