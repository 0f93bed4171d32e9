use Rattle.std.proofs.Common.{refl}
use Rattle.play_gen.proofs.CountedParts.{counts_begin}
use Rattle.play_gen.proofs.counting.begin_frame.Goals as goal

pub returns : goal.returns
returns g c functions r h =
    counts_begin {stands = g.V.Versions.stands} {world = c.args.world.now} c.args.counting.now _ r c.in_ok-reply.reply
    c.note_frame.result (c.in_ok-reply.ensures.reply r.standing.world h.world_stands) c.note_frame.ensures.frame
    (record {
      taken = c.note_frame.ensures.noted;
      refused = c.note_frame.ensures.refused;
      program = c.note_frame.ensures.program;
    }) h
    (c.in_ok-reply.ensures.left r.standing.world h.world_stands) refl
