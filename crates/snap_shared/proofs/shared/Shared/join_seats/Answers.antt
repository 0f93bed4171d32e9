use Rattle.std.proofs.Common.{arith, ◌++◌, ◌∷◌, [], ◌∙◌, ap, length, Some, append_assoc}
use Rattle.std.proofs.lemmas.List.Elements.{All-nil, All-cons, All-pop, All-weaker}
use Rattle.snap_shared.specs.declared.shared.Seat.{Seat}
use Rattle.snap_shared.specs.SeatSteps.{CoversSeat}
use Rattle.snap_shared.specs.Seats.{IsSeatOf}
use Rattle.snap_shared.specs.Histories.{caller_of, IsWorldAfter}
use Rattle.snap_shared.proofs.JoinedSeats.{covers_first, joined_first, joins_next, covers_still, covers_next}
use Rattle.snap_shared.proofs.SplitStates.{joins_seat, sees_history}
use Rattle.snap_shared.proofs.shared.Shared.join_seats.Goals as goal

pub loop-next-init : goal.loop-next-init
loop-next-init g c =
    let key = c.args.self.now.table.shared.key.world.value in
    let leads_to = IsWorldAfter g.W.P.Policy.rules g.W.Versions.stands in
    let last = c.in-Some.last in
    let parts = All-pop (λ (x : Seat g.row.W.Denot). IsSeatOf c.args.self.now.table.shared.table_id key x.seat.table_id
    x.seat.me x.number) c.args.seats.items c.pop.new.self.items (Some last) c.in-Some.ensures.items
    c.requires.all in
    let rests = parts.1 in (
      rests.0,
      parts.0,
      (
        last ∷ [],
        c.in-Some.ensures.items,
        joined_first leads_to key last.number last.seat.me rests.1,
        All-cons (λ (x : Seat g.row.W.Denot). CoversSeat last.seat.me.0 x.number x.seat.me.0.seen) last []
            (covers_first leads_to key last.number last.seat.me rests.1)
            (All-nil (λ (x : Seat g.row.W.Denot). CoversSeat last.seat.me.0 x.number x.seat.me.0.seen)),
      ),
    )

pub join_seat-requires : goal.join_seat-requires
join_seat-requires g c =
    let inv = c.loop-next.invariant in
    let key = c.args.self.now.table.shared.key.world.value in
    let next = c.in-Some-pop.next in
    let rests = (All-pop (λ (x : Seat g.row.W.Denot). IsSeatOf c.args.self.now.table.shared.table_id key x.seat.table_id
    x.seat.me x.number) c.loop-next.seats.items c.pop-in-loop-next.new.self.items (Some next)
    c.in-Some-pop.ensures.items inv.1).1 in (
      inv.0,
      rests.0,
      rests.1.3,
      omega (arith, c.args.self.now.words),
      joins_seat caller_of g.W.Versions.log (IsWorldAfter g.W.P.Policy.rules g.W.Versions.stands) key
          c.args.self.now.table.shared.key.seats c.loop-next.all.id c.loop-next.all.me.0 next.seat.id next.seat.me.0
          rests.1.0,
    )

pub load-requires : goal.load-requires
load-requires g c =
    let inv = c.loop-next.invariant in
    let key = c.args.self.now.table.shared.key.world.value in (
      c.join_seat.ensures.0 ∙ inv.0,
      omega (arith, c.args.self.now.words),
      sees_history caller_of g.W.Versions.log (IsWorldAfter g.W.P.Policy.rules g.W.Versions.stands) key
          c.args.self.now.table.shared.key.seats c.args.self.now.table.shared.table_id.slots c.join_seat.new.seat.id
          c.join_seat.new.seat.me (ap (λ m. m.0.phase) c.join_seat.ensures.2 ∙ inv.2.2.idle),
    )

pub loop-next-preserved : goal.loop-next-preserved
loop-next-preserved g c =
    let inv = c.loop-next.invariant in
    let key = c.args.self.now.table.shared.key.world.value in
    let leads_to = IsWorldAfter g.W.P.Policy.rules g.W.Versions.stands in
    let next = c.in-Some-pop.next in
    let v = c.loop-next.all.me in
    let parts = All-pop (λ (x : Seat g.row.W.Denot). IsSeatOf c.args.self.now.table.shared.table_id key x.seat.table_id
    x.seat.me x.number) c.loop-next.seats.items c.pop-in-loop-next.new.self.items (Some next)
    c.in-Some-pop.ensures.items inv.1 in
    let rests = parts.1 in
    let last = c.load.new.seat.me in (
      c.load.ensures.0 ∙ c.join_seat.ensures.0 ∙ inv.0,
      parts.0,
      (
        next ∷ inv.2.0,
        inv.2.1 ∙ ap (λ l. l ++ inv.2.0) c.in-Some-pop.ensures.items
            ∙ append_assoc c.pop-in-loop-next.new.self.items (next ∷ []) inv.2.0,
        joins_next leads_to key v next.seat.me c.join_seat.new.seat.me last next.number c.load.result rests.1
            c.join_seat.ensures.2 c.load.ensures.2 (length inv.2.0) inv.2.2,
        All-cons (λ (x : Seat g.row.W.Denot). CoversSeat last.0 x.number x.seat.me.0.seen) next inv.2.0
            (covers_next leads_to key v next.seat.me c.join_seat.new.seat.me last next.number c.load.result rests.1
            c.join_seat.ensures.2 c.load.ensures.2)
            (All-weaker (λ (x : Seat g.row.W.Denot). CoversSeat v.0 x.number x.seat.me.0.seen)
            (λ (x : Seat g.row.W.Denot). CoversSeat last.0 x.number x.seat.me.0.seen)
            (λ (x : Seat g.row.W.Denot) h. covers_still leads_to key v next.seat.me c.join_seat.new.seat.me last
            next.number c.load.result rests.1 c.join_seat.ensures.2 c.load.ensures.2 x.number x.seat.me.0.seen h)
            inv.2.0 inv.2.3),
      ),
    )
