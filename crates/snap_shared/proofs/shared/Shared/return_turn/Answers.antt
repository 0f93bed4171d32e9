use Rattle.std.proofs.Common.{arith, ◌∷◌, ◌∙◌, ap, sym, None}
use Rattle.atomic_table.specs.Table.{rest}
use Rattle.snap_shared.proofs.MadeCalls.{returns_at, after_return_is}
use Rattle.snap_shared.proofs.shared.Shared.return_turn.Goals as goal

pub exchange-emptied-requires : goal.exchange-emptied-requires
exchange-emptied-requires g c =
    let empty = c.requires.gives.empty in (c.requires.fits, (None, empty ∙ ap (λ l. (0, None) ∷ rest l) (sym empty)))

pub swap-found-requires : goal.swap-found-requires
swap-found-requires g c = (
  c.exchange-emptied.ensures.0 ∙ c.requires.fits,
  omega (arith, c.args.self.now.words),
  returns_at g.W.P.Policy.rules g.W.Versions.stands g.W.Versions.log c.args.self.now.table.shared.key.world.value
      c.args.self.now.table.shared.key.seats c.args.self.now.table.shared.table_id.slots c.exchange-emptied.new.seat.id
      c.args.seat.now.me c.exchange-emptied.new.seat.me c.args.world c.requires.gives c.exchange-emptied.ensures.3,
)

pub returns-then-found-eq-AWAITED-clause-returned : goal.returns-then-found-eq-AWAITED-clause-returned
returns-then-found-eq-AWAITED-clause-returned g c =
    after_return_is g.W.P.Policy.rules g.W.Versions.stands g.W.Versions.log c.args.seat.now.me
    c.exchange-emptied.new.seat.me c.swap-found.new.seat.me c.args.world c.swap-found.result c.requires.gives.empty
    c.exchange-emptied.ensures.3 c.swap-found.ensures.2

pub returns-else-found-eq-AWAITED-clause-returned : goal.returns-else-found-eq-AWAITED-clause-returned
returns-else-found-eq-AWAITED-clause-returned g c =
    after_return_is g.W.P.Policy.rules g.W.Versions.stands g.W.Versions.log c.args.seat.now.me
    c.exchange-emptied.new.seat.me c.swap-found.new.seat.me c.args.world c.swap-found.result c.requires.gives.empty
    c.exchange-emptied.ensures.3 c.swap-found.ensures.2
