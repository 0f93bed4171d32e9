use Rattle.std.proofs.Common.{◌≡◌, List, Some, ◌∙◌, sym, subst}
use Rattle.std.specs.List.{All}
use Rattle.snap_api.specs.declared.data.Entry.{Entry}
use Rattle.snap_api.specs.declared.log.LogWorld.{LogWorld}
use Rattle.snap_shared.specs.declared.shared.Seat.{Seat}
use Rattle.snap_shared.specs.SharedCalls.{ContainsSeat}
use Rattle.snap_shared.proofs.openings.Shared+LogWorld+V.into_parts.Goals as goal

one_log : (a b : List Entry) → Some a ≡ Some b → a ≡ b
one_log a b e = cc

pub returns-clause-seats : goal.returns-clause-seats
returns-clause-seats g c =
    let e = c.close.ensures.ended in
    let same : e.0 ≡ c.into_parts.result.1.items =
    one_log e.0 c.into_parts.result.1.items (sym e.1 ∙ c.into_parts.ensures.log) in
    subst (λ (l : List Entry). All (λ (x : Seat (LogWorld g.row.V.Denot)). ContainsSeat l x.number x.seat.me.0.seen)
    c.args.seats.items) same e.3
