use Rattle.std.proofs.Common.{◌≡◌, sym, ◌∙◌, None}
use Rattle.snap_laws.specs.Writes.{write_refusal}
use Rattle.snap_laws.proofs.Takes.{stands_like, like_itself, does_refused}
use Rattle.snap_laws.proofs.Writes.{writes_answer, write_good}
use Rattle.snap_laws.proofs.FreeRefusals.{write_not_refused}
use Rattle.snap_world.specs.Holding.{world_parts}
use Rattle.snap_world.proofs.world.RecordWorldVersions.write.Goals as goal

pub returns-in-Some-clause-call : goal.returns-in-Some-clause-call
returns-in-Some-clause-call g c = does_refused _ _ _ c.in-Some.refusal (λ w s. s)
    (λ w s. (writes_answer g.P.Policy.rules _ _ w c.args.caller c.args.name c.args.object c.args.value
    s).0 c.in-Some.refusal (sym c.write_refusal.ensures ∙ c.in-Some.is) (like_itself _))

pub compare-requires : goal.compare-requires
compare-requires g c =
    let good : write_refusal (world_parts c.args.self.now) c.args.caller c.args.name c.args.object c.args.value ≡ None =
    sym c.write_refusal.ensures ∙ c.in_default.is in
    let k = write_good (world_parts c.args.self.now) c.args.caller c.args.name c.args.object c.args.value good in
    record { live = k.live; there = k.there }

pub returns-in-Some-true-clause-call : goal.returns-in-Some-true-clause-call
returns-in-Some-true-clause-call g c = λ w s.
    let good : write_refusal (world_parts c.args.self.now) c.args.caller c.args.name c.args.object c.args.value ≡ None =
    sym c.write_refusal.ensures ∙ c.in_default.is in
    let k = c.in-Some-true.ensures.is in
    (writes_answer g.P.Policy.rules _ _ w c.args.caller c.args.name c.args.object c.args.value s).1 k.object k.entry
    good k.there k.reads (k.is ∙ c.in-Some-true.field-0-test) (like_itself _)

pub returns-in-Ok-clause-call : goal.returns-in-Ok-clause-call
returns-in-Ok-clause-call g c = λ w s.
    let good : write_refusal (world_parts c.args.self.now) c.args.caller c.args.name c.args.object c.args.value ≡ None =
    sym c.write_refusal.ensures ∙ c.in_default.is in
    let k = c.in-Some-false.ensures.is in
    (writes_answer g.P.Policy.rules _ _ w c.args.caller c.args.name c.args.object c.args.value s).2 k.object k.entry
    good k.there k.reads (k.is ∙ c.in-Some-false.field-0-test) (c.in-Ok.ensures.ok w s)

pub returns-in-Err-clause-call : goal.returns-in-Err-clause-call
returns-in-Err-clause-call g c = λ w s. stands_like c.in-Err.ensures.err s

pub returns-in-Some-clause-refused : goal.returns-in-Some-clause-refused
returns-in-Some-clause-refused g c =
    λ w s e is. ((writes_answer g.P.Policy.rules _ _ w c.args.caller c.args.name c.args.object c.args.value
    s).0 c.in-Some.refusal (sym c.write_refusal.ensures ∙ c.in-Some.is) (like_itself _)).0 ∙ is

pub returns-in-Some-true-clause-refused : goal.returns-in-Some-true-clause-refused
returns-in-Some-true-clause-refused g c = λ w s e is. absurd (write_not_refused g.P.Policy.rules s c.args.caller
    c.args.name c.args.object c.args.value (sym c.write_refusal.ensures ∙ c.in_default.is) e is)

pub returns-in-Ok-clause-refused : goal.returns-in-Ok-clause-refused
returns-in-Ok-clause-refused g c = λ w s e is. absurd (write_not_refused g.P.Policy.rules s c.args.caller c.args.name
    c.args.object c.args.value (sym c.write_refusal.ensures ∙ c.in_default.is) e is)

pub returns-in-Err-clause-refused : goal.returns-in-Err-clause-refused
returns-in-Err-clause-refused g c = λ w s e is. absurd (write_not_refused g.P.Policy.rules s c.args.caller c.args.name
    c.args.object c.args.value (sym c.write_refusal.ensures ∙ c.in_default.is) e is)

pub returns-in-None-clause-refused : goal.returns-in-None-clause-refused
returns-in-None-clause-refused g c = λ w s e is. absurd (write_not_refused g.P.Policy.rules s c.args.caller c.args.name
    c.args.object c.args.value (sym c.write_refusal.ensures ∙ c.in_default.is) e is)
