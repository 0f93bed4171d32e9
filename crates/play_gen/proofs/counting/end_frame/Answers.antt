use Rattle.std.proofs.Common.{◌∙◌, ap, Option}
use Rattle.std.specs.Option.{option_map}
use Rattle.compose_model.specs.Frame.{FrameResult}
use Rattle.play_run.proofs.FrameParts.{frame_map, frame_shows, frame_at, frame_is}
use Rattle.play_gen.specs.Tallies.{option_counted}
use Rattle.play_gen.proofs.CountedParts.{counts_end}
use Rattle.play_gen.proofs.counting.end_frame.Goals as goal

pub returns-in-Ok : goal.returns-in-Ok
returns-in-Ok g c functions r h =
    let k = r.standing.kept in
    let m = frame_map r c.args.name in
    let shows = frame_shows 0 c.args.name r h in
    let at = frame_at 0 c.args.name r h in
    let stood = c.compose-composed.ensures.same r.standing.world h.world_stands in
    let told = c.in-Ok.ensures.frame.told k m at shows
    ∙ ap (λ (o : Option FrameResult). option_map (λ (f : FrameResult). f.told) o) (frame_is 0 c.args.name r h) in
    counts_end {stands = g.V.Versions.stands} {world = c.args.world.now} c.args.counting.now _ r c.args.name h
    (c.in_ok-make_call.ensures.left r.standing.world stood) (c.in-Ok.ensures.frame.left k m at shows)
    c.compose-composed.ensures.frame.program
    (c.count_frame.ensures ∙ ap (option_counted c.args.counting.now.tally) told)
