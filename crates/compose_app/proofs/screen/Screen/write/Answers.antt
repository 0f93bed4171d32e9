use Rattle.std.proofs.Common.{ap, subst}
use Rattle.snap_api.specs.declared.data.Request.TheVariants as request
use Rattle.compose_app.specs.Programs.{state_names}
use Rattle.compose_app.specs.Screens.{screen_parts, IsScreenAt}
use Rattle.compose_app.specs.StateCalls.{CallsState, state_number, write_answer}
use Rattle.compose_app.proofs.ScreenCalls.{named_call, named_ready}
use Rattle.compose_app.proofs.screen.Screen.write.Goals as goal

pub invariant_of-self : goal.invariant_of-self
invariant_of-self g c =
    let s = c.self.inside in
    named_ready g.V.Versions.stands g.A.Applier.tree s.program.now s.composition s.applier s.world
    c.write_state.new.world (λ x. request.Write c.args.snapshot x c.args.value) (λ x. tt) (state_number c.args.name.now (state_names s.program.now.states.items))
    (write_answer c.write_state.result) c.write_state.ensures c.self.invariant

pub returns-clause-call : goal.returns-clause-call
returns-clause-call g c =
    let s = c.self.inside in
    let now = screen_parts s.program.now s.composition c.write_state.new.world s.applier in
    subst (λ old. CallsState (IsScreenAt g.V.Versions.stands g.A.Applier.tree old)
    (IsScreenAt g.V.Versions.stands g.A.Applier.tree now) (state_names old.program.states.items) c.args.name.now (λ x. request.Write c.args.snapshot x c.args.value)
    (write_answer c.write_state.result)) c.self.view_is
    (named_call g.V.Versions.stands g.A.Applier.tree s.program.now s.composition s.applier s.world
    c.write_state.new.world (λ x. request.Write c.args.snapshot x c.args.value) (λ x. tt) (state_number c.args.name.now (state_names s.program.now.states.items))
    (write_answer c.write_state.result) c.write_state.ensures)

pub returns-clause-applier : goal.returns-clause-applier
returns-clause-applier g c = (ap (λ o. o.applier) c.self.view_is, ap (λ o. o.program) c.self.view_is)
