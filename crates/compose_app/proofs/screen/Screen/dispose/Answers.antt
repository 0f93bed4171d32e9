use Rattle.std.proofs.Common.{ap, subst}
use Rattle.snap_policy.specs.Table.{table}
use Rattle.snap_api.specs.Calls.{Calls, dispose_reply}
use Rattle.snap_api.specs.declared.data.Request.TheVariants as request
use Rattle.compose_app.specs.Screens.{screen_parts, IsScreenAt}
use Rattle.compose_app.proofs.ScreenCalls.{called, ready}
use Rattle.compose_app.proofs.screen.Screen.dispose.Goals as goal

pub invariant_of-self : goal.invariant_of-self
invariant_of-self g c =
    let s = c.self.inside in
    ready g.V.Versions.stands g.A.Applier.tree s.program.now s.composition s.applier s.world c.dispose.new.self
    (request.Dispose c.args.snapshot) tt (dispose_reply c.dispose.result) c.dispose.ensures.call c.self.invariant

pub returns-clause-call : goal.returns-clause-call
returns-clause-call g c k =
    let s = c.self.inside in
    let now = screen_parts s.program.now s.composition c.dispose.new.self s.applier in
    subst (λ old. Calls table (IsScreenAt g.V.Versions.stands g.A.Applier.tree old k)
    (IsScreenAt g.V.Versions.stands g.A.Applier.tree now k) 0 (request.Dispose c.args.snapshot) (dispose_reply c.dispose.result)) c.self.view_is
    (called g.V.Versions.stands g.A.Applier.tree s.program.now s.composition s.applier s.world c.dispose.new.self
    (request.Dispose c.args.snapshot) tt (dispose_reply c.dispose.result) c.dispose.ensures.call k)

pub returns-clause-applier : goal.returns-clause-applier
returns-clause-applier g c = (ap (λ o. o.applier) c.self.view_is, ap (λ o. o.program) c.self.view_is)
