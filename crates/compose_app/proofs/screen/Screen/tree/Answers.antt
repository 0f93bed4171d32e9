use Rattle.std.proofs.Common.{sym, subst}
use Rattle.snap_api.specs.World.{last_of}
use Rattle.recomposer.specs.Compositions.{IsAt}
use Rattle.compose_app.proofs.screen.Screen.tree.Goals as goal

pub returns : goal.returns
returns g c k w h =
    c.table.ensures k (last_of w 0) (subst (λ s. IsAt s.composition k (last_of w 0)) (sym c.self.view_is) h.kept)
