use Rattle.std.proofs.Common.{◌∙◌}
use Rattle.snap_api.specs.Calls.{dispose_reply}
use Rattle.snap_api.specs.declared.data.Request.TheVariants.{Dispose}
use Rattle.snap_shared.proofs.MadeCalls.{can_return, rests_after, sees_own_call, own_at}
use Rattle.snap_shared.proofs.shared.Shared.dispose.Goals as goal

pub return_turn-requires-clause-gives : goal.return_turn-requires-clause-gives
return_turn-requires-clause-gives g c =
    can_return g.W.P.Policy.rules g.W.Versions.stands g.W.Versions.log c.args.self.now.table.shared.key.world.value
    c.args.seat.now.number c.args.seat.now.seat.me c.take_turn-world.new.seat.me c.take_turn-world.result
    c.dispose-outcome.new.self (Dispose c.args.name) (dispose_reply c.dispose-outcome.result)
    c.requires.fits.1 c.take_turn-world.ensures.taken c.dispose-outcome.ensures.log c.dispose-outcome.ensures.call

pub returns-clause-fits : goal.returns-clause-fits
returns-clause-fits g c = (
  c.return_turn.ensures.fits.0 ∙ c.take_turn-world.ensures.fits.0 ∙ c.requires.fits.0,
  rests_after g.W.P.Policy.rules g.W.Versions.stands g.W.Versions.log c.args.self.now.table.shared.key.world.value
      c.args.seat.now.number c.args.seat.now.seat.me c.take_turn-world.new.seat.me c.take_turn-world.result
      c.dispose-outcome.new.self (Dispose c.args.name) (dispose_reply c.dispose-outcome.result)
      c.requires.fits.1 c.take_turn-world.ensures.taken c.dispose-outcome.ensures.log c.dispose-outcome.ensures.call
      c.return_turn.new.seat.me c.return_turn.ensures.returned,
)

pub returns-clause-call : goal.returns-clause-call
returns-clause-call g c =
    sees_own_call g.W.P.Policy.rules g.W.Versions.stands g.W.Versions.log c.args.self.now.table.shared.key.world.value
    c.args.seat.now.number c.args.seat.now.seat.me c.take_turn-world.new.seat.me c.take_turn-world.result
    c.dispose-outcome.new.self (Dispose c.args.name) (dispose_reply c.dispose-outcome.result)
    c.requires.fits.1 c.take_turn-world.ensures.taken c.dispose-outcome.ensures.log c.dispose-outcome.ensures.call
    c.return_turn.new.seat.me c.return_turn.ensures.returned

pub returns-clause-own : goal.returns-clause-own
returns-clause-own g c o h stays =
    let ht = c.take_turn-world.ensures.taken in
    let own = own_at g.W.P.Policy.rules g.W.Versions.stands g.W.Versions.log
    c.args.self.now.table.shared.key.world.value c.args.seat.now.number c.args.seat.now.seat.me
    c.take_turn-world.new.seat.me c.take_turn-world.result c.requires.fits.1 ht o h c.args.name stays in
    c.dispose-outcome.ensures.own own.0 own.1 own.2
