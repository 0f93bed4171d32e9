use Rattle.std.proofs.Common.{◌≡◌, [], drop}
use Rattle.recompose_scopes.specs.Building.{with_owed}
use Rattle.recompose_scopes.proofs.scopes.RecomposeScopes.collect_places.Given as goal

abbrev pub invariant-loop-object : goal.invariant-loop-object
invariant-loop-object l =
    with_owed l.self (drop l.object-index l.objects) l.places.items ≡ with_owed l.self l.objects []
