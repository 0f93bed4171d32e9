use Rattle.std.proofs.Common.{◌∙◌}
use Rattle.snap_api.specs.Calls.{read_reply}
use Rattle.snap_api.specs.declared.data.Request.TheVariants.{Read}
use Rattle.snap_shared.proofs.MadeCalls.{can_return, rests_after, sees_own_call}
use Rattle.snap_shared.proofs.shared.Shared.read.Goals as goal

pub return_turn-requires-clause-gives : goal.return_turn-requires-clause-gives
return_turn-requires-clause-gives g c =
    can_return g.W.P.Policy.rules g.W.Versions.stands g.W.Versions.log c.args.self.now.table.shared.key.world.value
    c.args.seat.now.number c.args.seat.now.seat.me c.take_turn-world.new.seat.me c.take_turn-world.result
    c.read-outcome.new.self (Read c.args.name c.args.object) (read_reply c.read-outcome.result)
    c.requires.fits.1 c.take_turn-world.ensures.taken c.read-outcome.ensures.log c.read-outcome.ensures.call

pub returns-clause-fits : goal.returns-clause-fits
returns-clause-fits g c = (
  c.return_turn.ensures.fits.0 ∙ c.take_turn-world.ensures.fits.0 ∙ c.requires.fits.0,
  rests_after g.W.P.Policy.rules g.W.Versions.stands g.W.Versions.log c.args.self.now.table.shared.key.world.value
      c.args.seat.now.number c.args.seat.now.seat.me c.take_turn-world.new.seat.me c.take_turn-world.result
      c.read-outcome.new.self (Read c.args.name c.args.object) (read_reply c.read-outcome.result)
      c.requires.fits.1 c.take_turn-world.ensures.taken c.read-outcome.ensures.log c.read-outcome.ensures.call
      c.return_turn.new.seat.me c.return_turn.ensures.returned,
)

pub returns-clause-call : goal.returns-clause-call
returns-clause-call g c =
    sees_own_call g.W.P.Policy.rules g.W.Versions.stands g.W.Versions.log c.args.self.now.table.shared.key.world.value
    c.args.seat.now.number c.args.seat.now.seat.me c.take_turn-world.new.seat.me c.take_turn-world.result
    c.read-outcome.new.self (Read c.args.name c.args.object) (read_reply c.read-outcome.result)
    c.requires.fits.1 c.take_turn-world.ensures.taken c.read-outcome.ensures.log c.read-outcome.ensures.call
    c.return_turn.new.seat.me c.return_turn.ensures.returned
