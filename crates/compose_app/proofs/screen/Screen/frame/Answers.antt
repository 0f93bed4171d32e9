use Rattle.std.proofs.Common.{subst}
use Rattle.compose_app.specs.Screens.{screen_parts, MakesScreenFrame}
use Rattle.compose_app.proofs.ScreenFrames.{still_ready}
use Rattle.compose_app.proofs.screen.Screen.frame.Goals as goal

pub make_frame-requires : goal.make_frame-requires
make_frame-requires g c = c.self.invariant

pub invariant_of-self : goal.invariant_of-self
invariant_of-self g c = still_ready g.V.Versions.stands g.A.Applier.tree g.A.Applier.faults _ _ c.make_frame.result
    c.make_frame.ensures c.self.invariant

pub returns : goal.returns
returns g c =
    let s = c.self.inside in
    let now = screen_parts s.program.now c.make_frame.new.composition c.make_frame.new.world c.make_frame.new.applier in
    subst (λ old. MakesScreenFrame g.V.Versions.stands g.A.Applier.tree g.A.Applier.faults old now c.make_frame.result)
    c.self.view_is c.make_frame.ensures
