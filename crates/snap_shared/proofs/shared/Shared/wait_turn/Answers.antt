use Rattle.std.proofs.Common.{arith, ◌<◌, length, ◌∙◌, ap, sym, subst}
use Rattle.snap_shared.specs.Histories.{caller_of, IsWorldAfter}
use Rattle.snap_shared.proofs.TriedTurns.{tries_turn, exchanged_not_zero}
use Rattle.snap_shared.proofs.shared.Shared.wait_turn.Goals as goal

pub compare_exchange-first-requires : goal.compare_exchange-first-requires
compare_exchange-first-requires g c = (
  c.requires.fits,
  omega (arith, c.args.self.now.words),
  tries_turn caller_of g.W.Versions.log (IsWorldAfter g.W.P.Policy.rules g.W.Versions.stands)
      c.args.self.now.table.shared.key.world.value c.args.self.now.table.shared.key.seats
      c.args.self.now.table.shared.table_id.slots c.args.seat.now.id c.args.seat.now.me c.requires.rests.1
      c.requires.rests.2 _ exchanged_not_zero,
)

pub swap-found-requires : goal.swap-found-requires
swap-found-requires g c =
    let q = c.loop.invariant in (
      q.0 ∙ c.requires.fits,
      omega (arith, c.args.self.now.words),
      tries_turn caller_of g.W.Versions.log (IsWorldAfter g.W.P.Policy.rules g.W.Versions.stands)
          c.args.self.now.table.shared.key.world.value c.args.self.now.table.shared.key.seats
          c.args.self.now.table.shared.table_id.slots c.loop.seat.id c.loop.seat.me
          (subst (λ m. 0 < length m.0.own) (sym q.2) c.requires.rests.1) (ap (λ m. m.1) q.2 ∙ c.requires.rests.2)
          (λ x. 2) (λ x e. absurd cc),
    )
