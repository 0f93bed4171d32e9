use Rattle.std.proofs.Common.{◌≡◌, ◌+◌, rules, arith, length, length-append}
use Rattle.rt_values.specs.Values.{type_of}
use Rattle.snap_policy.specs.declared.policy.BuiltIn.{BuiltIn}
use Rattle.snap_policy.specs.Table.{table}
use Rattle.snap_api.specs.declared.data.Object.{Object}
use Rattle.snap_api.specs.World.{world_after_make}
use Rattle.snap_api.proofs.ValidMade.{valid_made, makeable}
use Rattle.compose_app.proofs.opening.make_states.Goals as goal

pub loop-state-preserved : goal.loop-state-preserved
loop-state-preserved g c =
    let s = c.in-Some.state.now in
    let was = c.loop-state.invariant in
    let split : length c.loop-state.rest.now ≡ 1 + length c.in-Some.more.now = search rules in
    let fits = makeable table (type_of s.initial) s.policy s.initial c.in_ok-make_state.ensures.fits in (
      world_after_make was.0 (type_of s.initial) s.policy s.initial,
      record {
        represents = c.in_ok-make_state.ensures.made was.0 was.1.represents;
        valid = valid_made was.1.valid (type_of s.initial) s.policy s.initial fits;
        unwatched = was.1.unwatched;
      },
      search rules,
      omega (arith, was.3, split, length-append {A = Object BuiltIn}),
    )
