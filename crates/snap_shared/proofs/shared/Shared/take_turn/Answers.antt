use Rattle.std.proofs.Common.{◌∷◌, ◌∙◌, ap, sym, Some}
use Rattle.atomic_table.specs.Table.{rest}
use Rattle.snap_shared.proofs.TakenTurns.{has_turn}
use Rattle.snap_shared.specs.Histories.{IsWorldAfter}
use Rattle.snap_shared.proofs.shared.Shared.take_turn.Goals as goal

pub exchange-requires : goal.exchange-requires
exchange-requires g c =
    let tk = c.wait_turn.ensures.taken in
    let mine = ap (λ m. m.1) tk.2 in
    (c.wait_turn.ensures.fits.0 ∙ c.requires.fits, (Some tk.0, mine ∙ ap (λ l. (0, Some tk.0) ∷ rest l) (sym mine)))

pub returns-clause-taken : goal.returns-clause-taken
returns-clause-taken g c =
    let tk = c.wait_turn.ensures.taken in
    has_turn g.W.Versions.log (IsWorldAfter g.W.P.Policy.rules g.W.Versions.stands) c.args.seat.now.me
    c.wait_turn.new.seat.me c.exchange.new.seat.me c.exchange.result c.in-Some.world tk c.exchange.ensures.2
    c.in-Some.is c.exchange.ensures.3
