use Rattle.std.proofs.Common.{◌∙◌, ◌++◌, ◌∷◌, [], List, length, ap, Option, None}
use Rattle.rt_values.specs.Maps.{Map}
use Rattle.snap_api.proofs.ValidMoves.{valid_watched}
use Rattle.compose_app.proofs.opening.make_all.Goals as goal

pub returns-in-Ok : goal.returns-in-Ok
returns-in-Ok g c =
    let made = c.in_ok-make_states.ensures in
    let told = c.in-Ok.ensures.ok _ made.represents in (
      told.0 ∙ ap (λ (ls : List (Option Map)). length ls) made.unwatched,
      record {
        represents = told.1;
        valid = valid_watched made.valid;
        lasts = ap (λ (ls : List (Option Map)). ls ++ None ∷ []) made.unwatched;
      },
    )
