-- The frames of a checked program open at most as many groups as the bound says.
use Rattle.std.proofs.Common.{arith}
use Rattle.rt_groups.specs.GroupForest.{End}
use Rattle.compose_model.specs.Composing.{forest}
use Rattle.node_laws.proofs.StatementSites.{look_up}
use Rattle.node_laws.proofs.ToldForests.{at_node, composed_at_sites, composed_is_shaped}
use Rattle.step_laws.specs.FrameCosts.{SkippingIsBounded, FirstFrameIsBounded}
use Rattle.step_laws.proofs.Bounds.{costs_are_bounded}
use Rattle.step_laws.proofs.SkippedWalks.{skip_is, skipped_forest}

pub skipping_is_bounded : SkippingIsBounded
skipping_is_bounded p root seen m owed old numbered fine kept same =
    omega (
      arith,
      skip_is m owed old (forest p.functions root m) p.functions
          (skipped_forest seen m owed p.functions root old kept same),
      costs_are_bounded (at_node (look_up p.functions)) owed old (forest p.functions root m)
          (composed_is_shaped p root seen old numbered fine kept).sites (composed_at_sites p root m numbered fine),
    )

pub first_frame_is_bounded : FirstFrameIsBounded
first_frame_is_bounded p root m owed numbered fine =
    let all = costs_are_bounded (at_node (look_up p.functions)) owed End (forest p.functions root m) tt
    (composed_at_sites p root m numbered fine) in
    omega (arith, all)
