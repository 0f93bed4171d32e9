use Rattle.std.proofs.Common.{ap, subst}
use Rattle.snap_policy.specs.Table.{table}
use Rattle.snap_api.specs.Calls.{Calls, taken_reply}
use Rattle.snap_api.specs.declared.data.Request.TheVariants as request
use Rattle.compose_app.specs.Screens.{screen_parts, IsScreenAt}
use Rattle.compose_app.proofs.ScreenCalls.{called, ready}
use Rattle.compose_app.proofs.screen.Screen.take.Goals as goal

pub invariant_of-self : goal.invariant_of-self
invariant_of-self g c =
    let s = c.self.inside in
    ready g.V.Versions.stands g.A.Applier.tree s.program.now s.composition s.applier s.world c.take.new.self
    (request.Take c.args.parent c.args.kind) tt (taken_reply c.take.result) c.take.ensures.call c.self.invariant

pub returns-clause-call : goal.returns-clause-call
returns-clause-call g c k =
    let s = c.self.inside in
    let now = screen_parts s.program.now s.composition c.take.new.self s.applier in
    subst (λ old. Calls table (IsScreenAt g.V.Versions.stands g.A.Applier.tree old k)
    (IsScreenAt g.V.Versions.stands g.A.Applier.tree now k) 0 (request.Take c.args.parent c.args.kind) (taken_reply c.take.result)) c.self.view_is
    (called g.V.Versions.stands g.A.Applier.tree s.program.now s.composition s.applier s.world c.take.new.self
    (request.Take c.args.parent c.args.kind) tt (taken_reply c.take.result) c.take.ensures.call k)

pub returns-clause-applier : goal.returns-clause-applier
returns-clause-applier g c = (ap (λ o. o.applier) c.self.view_is, ap (λ o. o.program) c.self.view_is)
