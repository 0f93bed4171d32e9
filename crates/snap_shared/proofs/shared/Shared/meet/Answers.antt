use Rattle.std.proofs.Common.{◌∙◌, sym, subst}
use Rattle.snap_shared.specs.SeatSteps.{AdoptsJoined}
use Rattle.snap_shared.specs.Seats.{IsAtRest}
use Rattle.snap_shared.specs.Histories.{IsWorldAfter}
use Rattle.snap_shared.proofs.SharedHistories.{one_at_rest, other_at_rest, meets}
use Rattle.snap_shared.proofs.shared.Shared.meet.Goals as goal

pub returns-clause-met : goal.returns-clause-met
returns-clause-met g c =
    let over = subst (λ m. AdoptsJoined (IsWorldAfter g.W.P.Policy.rules g.W.Versions.stands) m c.see_joined.new.one.me
    c.adopt_joined.new.one.me) c.see_joined.ensures.other c.adopt_joined.ensures.one in
    rw (c.adopt_joined.ensures.other) (meets g.W.P.Policy.rules g.W.Versions.stands
    c.args.self.now.table.shared.key.world.value c.args.one.now.number c.args.other.now.number
    c.args.one.now.seat.me c.args.other.now.seat.me c.see_joined.new.one.me c.adopt_joined.new.one.me
    c.requires.one.1 c.requires.other.1 c.see_joined.ensures.one over)

pub returns-clause-one : goal.returns-clause-one
returns-clause-one g c =
    let over = subst (λ m. AdoptsJoined (IsWorldAfter g.W.P.Policy.rules g.W.Versions.stands) m c.see_joined.new.one.me
    c.adopt_joined.new.one.me) c.see_joined.ensures.other c.adopt_joined.ensures.one in
    let rests = one_at_rest g.W.P.Policy.rules g.W.Versions.stands c.args.self.now.table.shared.key.world.value
    c.args.one.now.number c.args.other.now.number c.args.one.now.seat.me c.args.other.now.seat.me
    c.see_joined.new.one.me c.adopt_joined.new.one.me c.requires.one.1 c.requires.other.1 c.see_joined.ensures.one
    over in (
      c.adopt_joined.ensures.fits.1 ∙ c.see_joined.ensures.fits.0 ∙ c.requires.one.0,
      subst (λ m. IsAtRest c.args.self.now.table.shared.key.world.value c.args.one.now.number m)
          (sym c.adopt_joined.ensures.other) rests,
    )

pub returns-clause-other : goal.returns-clause-other
returns-clause-other g c =
    let over = subst (λ m. AdoptsJoined (IsWorldAfter g.W.P.Policy.rules g.W.Versions.stands) m c.see_joined.new.one.me
    c.adopt_joined.new.one.me) c.see_joined.ensures.other c.adopt_joined.ensures.one in (
      c.adopt_joined.ensures.fits.0 ∙ c.see_joined.ensures.fits.1 ∙ c.requires.other.0,
      other_at_rest g.W.P.Policy.rules g.W.Versions.stands c.args.self.now.table.shared.key.world.value
          c.args.one.now.number c.args.other.now.number c.args.one.now.seat.me c.args.other.now.seat.me
          c.see_joined.new.one.me c.adopt_joined.new.one.me c.requires.one.1 c.requires.other.1 c.see_joined.ensures.one
          over,
    )
