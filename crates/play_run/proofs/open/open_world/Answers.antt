use Rattle.std.proofs.Common.{length, ap, arith, List, Option}
use Rattle.rt_values.specs.Maps.{Map}
use Rattle.snap_api.specs.World.{start}
use Rattle.play_run.proofs.Openings.{lasts-states}
use Rattle.play_run.proofs.open.open_world.Goals as goal

pub watch-requires : goal.watch-requires
watch-requires g c =
    let counted = (g.met.V.Versions.counts _ _ c.in_ok-make_states.ensures.made).1 in
    let none = ap (λ (ls : List (Option Map)). length ls) (lasts-states (start 0) c.args.states.now) in
    omega (arith, counted, none)
