use Rattle.std.proofs.Common.{◌≡◌, drop}
use Rattle.recompose_scopes.specs.Building.{with_places}
use Rattle.recompose_scopes.proofs.scopes.RecomposeScopes.append_places.Given as goal

abbrev pub invariant-loop-scope : goal.invariant-loop-scope
invariant-loop-scope l = with_places l.self.anchors (drop l.scope-index l.scopes) l.places.items
    ≡ with_places l.self.anchors l.scopes l.initial.places.items
