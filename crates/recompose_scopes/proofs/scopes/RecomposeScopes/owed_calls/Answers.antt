use Rattle.std.proofs.Common.{ap, ◌∙◌}
use Rattle.rt_values.specs.Maps.{contains}
use Rattle.recompose_scopes.proofs.CollectedPlaces.{owed_list}
use Rattle.recompose_scopes.proofs.scopes.RecomposeScopes.owed_calls.Goals as goal

pub returns : goal.returns
returns c = λ reads scopes. owed_list c.args.self.now c.args.objects.now c.of.result
    (λ i. c.of.ensures i ∙ ap (contains i) c.in_ok-collect_places.ensures) reads scopes
