use Rattle.std.proofs.Common.{◌≡◌, sym, ◌∙◌, None}
use Rattle.snap_laws.specs.TakesFor.{take_for_refusal}
use Rattle.snap_laws.proofs.Takes.{stands_like, like_itself, does_refused}
use Rattle.snap_laws.proofs.TakesFor.{takes_for_answer}
use Rattle.snap_laws.proofs.FreeRefusals.{take_for_not_refused}
use Rattle.snap_world.specs.Holding.{world_parts}
use Rattle.snap_world.proofs.world.RecordWorldVersions.take_for.Goals as goal

pub returns-in-Some-clause-call : goal.returns-in-Some-clause-call
returns-in-Some-clause-call g c = does_refused _ _ _ c.in-Some.refusal (λ w s. s)
    (λ w s. (takes_for_answer g.P.Policy.rules _ _ w c.args.caller c.args.watcher s).0 c.in-Some.refusal
    (sym c.take_for_refusal.ensures ∙ c.in-Some.is) (like_itself _))

pub returns-in_default-push_child_for-clause-call : goal.returns-in_default-push_child_for-clause-call
returns-in_default-push_child_for-clause-call g c = λ w s. stands_like c.in_default-push_child_for.ensures.err s

pub returns-clause-call : goal.returns-clause-call
returns-clause-call g c = λ w s.
    let good : take_for_refusal (world_parts c.args.self.now) c.args.watcher ≡ None = sym c.take_for_refusal.ensures
    ∙ c.in_default.is in
    let taken = (takes_for_answer g.P.Policy.rules (world_parts c.args.self.now) (world_parts c.push_child_for.new.self) w
    c.args.caller c.args.watcher s).1 c.in-Ok.name c.in-Ok.changed good c.in-Ok.ensures.ok in
    (taken.0, c.sweep_ids.ensures _ taken.1)

pub returns-in-Some-clause-refused : goal.returns-in-Some-clause-refused
returns-in-Some-clause-refused g c =
    λ w s e is. ((takes_for_answer g.P.Policy.rules _ _ w c.args.caller c.args.watcher s).0 c.in-Some.refusal
    (sym c.take_for_refusal.ensures ∙ c.in-Some.is) (like_itself _)).0 ∙ is

pub returns-in_default-push_child_for-clause-refused : goal.returns-in_default-push_child_for-clause-refused
returns-in_default-push_child_for-clause-refused g c = λ w s e is. absurd (take_for_not_refused g.P.Policy.rules s
    c.args.caller c.args.watcher (sym c.take_for_refusal.ensures ∙ c.in_default.is) e is)

pub returns-clause-refused : goal.returns-clause-refused
returns-clause-refused g c = λ w s e is. absurd (take_for_not_refused g.P.Policy.rules s c.args.caller c.args.watcher
    (sym c.take_for_refusal.ensures ∙ c.in_default.is) e is)
