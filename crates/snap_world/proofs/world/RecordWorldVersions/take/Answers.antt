use Rattle.std.proofs.Common.{◌≡◌, sym, ◌∙◌, None}
use Rattle.snap_laws.specs.Steps.{take_refusal}
use Rattle.snap_laws.proofs.Takes.{stands_like, takes_answer, like_itself, does_refused, take_good, take_room}
use Rattle.snap_laws.proofs.FreeRefusals.{take_not_refused}
use Rattle.snap_world.specs.Holding.{world_parts}
use Rattle.snap_world.proofs.world.RecordWorldVersions.take.Goals as goal

pub returns-in-Some-clause-call : goal.returns-in-Some-clause-call
returns-in-Some-clause-call g c = does_refused _ _ _ c.in-Some.refusal (λ w s. s)
    (λ w s. (takes_answer g.P.Policy.rules _ _ w c.args.caller c.args.parent c.args.kind s).0 c.in-Some.refusal
    (sym c.take_refusal.ensures ∙ c.in-Some.is) (like_itself _))

pub returns-in_default-push_child-clause-call : goal.returns-in_default-push_child-clause-call
returns-in_default-push_child-clause-call g c = λ w s. stands_like (c.in_default-push_child.ensures.err) s

pub push_child-requires : goal.push_child-requires
push_child-requires g c =
    let good : take_refusal (world_parts c.args.self.now) c.args.parent c.args.kind ≡ None = sym c.take_refusal.ensures
    ∙ c.in_default.is in
    record {
      live = take_good (world_parts c.args.self.now) c.args.parent c.args.kind good;
      room = take_room (world_parts c.args.self.now) c.args.parent c.args.kind good c.args.self.now.in_time;
    }

pub returns-clause-call : goal.returns-clause-call
returns-clause-call g c = λ w s.
    let good : take_refusal (world_parts c.args.self.now) c.args.parent c.args.kind ≡ None = sym c.take_refusal.ensures
    ∙ c.in_default.is in
    let taken = (takes_answer g.P.Policy.rules _ (world_parts c.push_child.new.self) w c.args.caller c.args.parent
    c.args.kind s).1 c.in-Ok.name good (take_good (world_parts c.args.self.now) c.args.parent c.args.kind good)
    (c.in-Ok.ensures.ok) in
    (taken.0, c.sweep_ids.ensures _ taken.1)

pub returns-in-Some-clause-refused : goal.returns-in-Some-clause-refused
returns-in-Some-clause-refused g c =
    λ w s e is. ((takes_answer g.P.Policy.rules _ _ w c.args.caller c.args.parent c.args.kind s).0 c.in-Some.refusal
    (sym c.take_refusal.ensures ∙ c.in-Some.is) (like_itself _)).0 ∙ is

pub returns-in_default-push_child-clause-refused : goal.returns-in_default-push_child-clause-refused
returns-in_default-push_child-clause-refused g c = λ w s e is. absurd (take_not_refused g.P.Policy.rules s c.args.caller
    c.args.parent c.args.kind (sym c.take_refusal.ensures ∙ c.in_default.is) e is)

pub returns-clause-refused : goal.returns-clause-refused
returns-clause-refused g c = λ w s e is. absurd (take_not_refused g.P.Policy.rules s c.args.caller c.args.parent
    c.args.kind (sym c.take_refusal.ensures ∙ c.in_default.is) e is)
