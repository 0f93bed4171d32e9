use Rattle.std.proofs.Common.{refl}
use Rattle.play_gen.proofs.CountedParts.{counts_call}
use Rattle.play_gen.proofs.counting.count_call.Goals as goal

pub returns-clause-counts : goal.returns-clause-counts
returns-clause-counts g c functions r p plain is h =
    counts_call {stands = g.V.Versions.stands} {world = c.args.world.now} c.args.counting.now _ r p c.args.request
    c.in_ok-reply.reply plain is h
    (c.in_ok-reply.ensures.left r.standing.world h.world_stands)
    (c.in_ok-reply.ensures.reply r.standing.world h.world_stands) refl c.count_reply.ensures
