use Rattle.std.proofs.Common.{◌∙◌, ap}
use Rattle.compose_app.proofs.screen.Screen.ops.Goals as goal

pub returns : goal.returns
returns g c = c.ops.ensures ∙ ap (λ s. s.composition.ops) c.self.view_is
