use Rattle.std.proofs.Common.{refl, Err, ◌≡◌, sym, ◌∙◌, None, Some, true, false}
use Rattle.snap_laws.specs.Disposes.{dispose_refusal}
use Rattle.snap_laws.proofs.Takes.{like_itself, does_refused}
use Rattle.snap_laws.proofs.Closing.{disposes_answer}
use Rattle.snap_laws.proofs.Gets.{own_disposes}
use Rattle.snap_laws.proofs.FreeRefusals.{dispose_in_memory}
use Rattle.snap_world.proofs.Reading.{err_is}
use Rattle.snap_world.specs.Holding.{world_parts}
use Rattle.snap_world.proofs.world.RecordWorldVersions.dispose.Goals as goal

pub returns-in-Some-clause-call : goal.returns-in-Some-clause-call
returns-in-Some-clause-call g c = does_refused _ _ _ c.in-Some.refusal (λ w s. s)
    (λ w s. (disposes_answer g.P.Policy.rules (world_parts c.args.self.now) _ w c.args.caller c.args.name
    s).0 c.in-Some.refusal (sym c.dispose_refusal.ensures ∙ c.in-Some.is) (like_itself _))

pub returns-clause-call : goal.returns-clause-call
returns-clause-call g c = λ w s.
    let h = world_parts c.args.self.now in
    let good : dispose_refusal h c.args.caller c.args.name ≡ None = sym c.dispose_refusal.ensures ∙ c.in_default.is in
    let live : h.ids.live c.args.name ≡ true = sym c.live.ensures ∙ c.if-not-live.false in
    let d = (disposes_answer g.P.Policy.rules h (world_parts c.close.new.self) w c.args.caller c.args.name s).2 good live
    c.close.ensures in
    (d.0, c.forget_all.ensures.stays _ d.1)

pub returns-in-Some-clause-own : goal.returns-in-Some-clause-own
returns-in-Some-clause-own g c = λ w s own.
    let good : dispose_refusal (world_parts c.args.self.now) c.args.caller c.args.name ≡ None =
    own_disposes g.P.Policy.rules (world_parts c.args.self.now) w c.args.caller c.args.name s own in
    let clash : None ≡ Some c.in-Some.refusal = sym good ∙ sym c.dispose_refusal.ensures ∙ c.in-Some.is in
    cc

pub returns-in-Some-clause-free : goal.returns-in-Some-clause-free
returns-in-Some-clause-free g c = λ same. dispose_in_memory (world_parts c.args.self.now) c.args.caller c.args.name
    c.in-Some.refusal (sym c.dispose_refusal.ensures ∙ c.in-Some.is)
    (err_is c.in-Some.refusal _ (Err c.in-Some.refusal) refl same)

pub returns-then-not-live-clause-call : goal.returns-then-not-live-clause-call
returns-then-not-live-clause-call g c = λ w s.
    let h = world_parts c.args.self.now in
    let good : dispose_refusal h c.args.caller c.args.name ≡ None = sym c.dispose_refusal.ensures ∙ c.in_default.is in
    let closed : h.ids.live c.args.name ≡ false = sym c.live.ensures ∙ c.if-not-live.true in
    (disposes_answer g.P.Policy.rules h h w c.args.caller c.args.name s).1 good closed (like_itself _)
