use Rattle.std.proofs.Common.{◌≡◌, ℕ, List, sym, ◌∙◌, subst, true, false, None, Option, Some}
use Rattle.snap_api.specs.Choices.{is_clash}
use Rattle.snap_laws.specs.Applies.{apply_refusal, choice_at, HasNoClash, IsLeastClash, Merges}
use Rattle.snap_laws.specs.FreeRefusals.{IsMergeFree}
use Rattle.snap_laws.proofs.FreeRefusals.{apply_not_refused, apply_conflicts}
use Rattle.snap_laws.proofs.Merging.{pads_stand, applies_answer, apply_good}
use Rattle.snap_laws.proofs.Takes.{like_itself, does_refused}
use Rattle.snap_world.specs.Noting.{noted_of}
use Rattle.snap_world.specs.Choices.{IsLeast}
use Rattle.snap_world.specs.Holding.{world_parts, AreSettled}
use Rattle.snap_world.specs.declared.settling.Settled.{Settled}
use Rattle.snap_world.proofs.Settled.{none_clashes}
use Rattle.snap_world.proofs.world.RecordWorldVersions.apply.Goals as goal

pub returns-in-Some-clause-call : goal.returns-in-Some-clause-call
returns-in-Some-clause-call g c = does_refused _ _ _ c.in-Some.refusal (λ w s. s)
    (λ w s. (applies_answer g.P.Policy.rules (world_parts c.args.self.now) _ w c.args.caller c.args.name
    s).0 c.in-Some.refusal (sym c.apply_refusal.ensures ∙ c.in-Some.is) (like_itself _))

pub returns-in-Some-clause-refused : goal.returns-in-Some-clause-refused
returns-in-Some-clause-refused g c =
    λ w s e is free. ((applies_answer g.P.Policy.rules (world_parts c.args.self.now) _ w c.args.caller c.args.name
    s).0 c.in-Some.refusal (sym c.apply_refusal.ensures ∙ c.in-Some.is) (like_itself _)).0 ∙ is

pub returns-in-Ok-Some-clause-call : goal.returns-in-Ok-Some-clause-call
returns-in-Ok-Some-clause-call g c = λ w s.
    let h = world_parts c.args.self.now in
    let rules = g.P.Policy.rules in
    let good : apply_refusal h c.args.caller c.args.name ≡ None = sym c.apply_refusal.ensures ∙ c.in_default.is in
    let into : c.parent-into.result ≡ h.ids.parent c.args.name = c.parent-into.ensures in
    let l : IsLeast (λ x. is_clash (choice_at rules h c.args.name c.parent-into.result x)) (noted_of c.args.self.now.wrote c.args.name) (Some c.in-Ok-Some.object) =
    subst (λ (o : Option ℕ). IsLeast (λ x. is_clash (choice_at rules h c.args.name c.parent-into.result x))
    (noted_of c.args.self.now.wrote c.args.name) o) c.in-Ok-Some.field-0-is
    c.in-Ok-Some.ensures.is in
    let clash : IsLeastClash rules h c.args.name (h.ids.parent c.args.name) c.in-Ok-Some.object =
    subst (λ (n : ℕ). IsLeastClash rules h c.args.name n c.in-Ok-Some.object) into
    (record { noted = l.0; clash = l.1; least = l.2 }) in
    (applies_answer rules h _ w c.args.caller c.args.name s).1 c.in-Ok-Some.object good clash (like_itself _)

pub returns-in-Ok-Some-clause-refused : goal.returns-in-Ok-Some-clause-refused
returns-in-Ok-Some-clause-refused g c = λ w s e is free.
    let h = world_parts c.args.self.now in
    let rules = g.P.Policy.rules in
    let good : apply_refusal h c.args.caller c.args.name ≡ None = sym c.apply_refusal.ensures ∙ c.in_default.is in
    let into : c.parent-into.result ≡ h.ids.parent c.args.name = c.parent-into.ensures in
    let l : IsLeast (λ x. is_clash (choice_at rules h c.args.name c.parent-into.result x)) (noted_of c.args.self.now.wrote c.args.name) (Some c.in-Ok-Some.object) =
    subst (λ (o : Option ℕ). IsLeast (λ x. is_clash (choice_at rules h c.args.name c.parent-into.result x))
    (noted_of c.args.self.now.wrote c.args.name) o) c.in-Ok-Some.field-0-is
    c.in-Ok-Some.ensures.is in
    let clash : IsLeastClash rules h c.args.name (h.ids.parent c.args.name) c.in-Ok-Some.object =
    subst (λ (n : ℕ). IsLeastClash rules h c.args.name n c.in-Ok-Some.object) into
    (record { noted = l.0; clash = l.1; least = l.2 }) in
    ((applies_answer rules h h w c.args.caller c.args.name s).1 c.in-Ok-Some.object good clash (like_itself h)).0 ∙ is

pub returns-in-Ok-None-clause-refused : goal.returns-in-Ok-None-clause-refused
returns-in-Ok-None-clause-refused g c = λ w s e is free.
    let h = world_parts c.args.self.now in
    let rules = g.P.Policy.rules in
    let good : apply_refusal h c.args.caller c.args.name ≡ None = sym c.apply_refusal.ensures ∙ c.in_default.is in
    let into : c.parent-into.result ≡ h.ids.parent c.args.name = c.parent-into.ensures in
    let none : HasNoClash rules h c.args.name c.parent-into.result =
    subst (λ (o : Option ℕ). IsLeast (λ x. is_clash (choice_at rules h c.args.name c.parent-into.result x))
    (noted_of c.args.self.now.wrote c.args.name) o) c.in-Ok-None.field-0-is
    c.in-Ok-None.ensures.is in
    absurd (apply_not_refused rules s c.args.caller c.args.name good
    (subst (λ (n : ℕ). HasNoClash rules h c.args.name n) into none) e is)

pub put_settled-requires-clause-each : goal.put_settled-requires-clause-each
put_settled-requires-clause-each g c = subst (λ (l : List Settled). AreSettled g.P.Policy.rules
    (world_parts c.args.self.now) c.args.name c.parent-into.result l) (sym c.deref.ensures.value)
    c.in-Some-settle.ensures.each

pub returns-in-Ok-clause-call : goal.returns-in-Ok-clause-call
returns-in-Ok-clause-call g c = λ w s.
    let h = world_parts c.args.self.now in
    let rules = g.P.Policy.rules in
    let good : apply_refusal h c.args.caller c.args.name ≡ None = sym c.apply_refusal.ensures ∙ c.in_default.is in
    let into : c.parent-into.result ≡ h.ids.parent c.args.name = c.parent-into.ensures in
    let none : HasNoClash rules h c.args.name c.parent-into.result =
    none_clashes rules h c.args.name c.parent-into.result c.in-Some-settle.settled.items
    (noted_of c.args.self.now.wrote c.args.name) c.in-Some-settle.ensures.objects
    c.in-Some-settle.ensures.each in
    let k = world_parts c.put_settled.new.self in
    (applies_answer rules h k w c.args.caller c.args.name s).2 good
    (subst (λ (n : ℕ). HasNoClash rules h c.args.name n) into none)
    (subst (λ (n : ℕ). Merges h k c.args.name n (λ x. choice_at rules h c.args.name n x)) into c.in-Ok.ensures.ok)

pub returns-in-Ok-clause-refused : goal.returns-in-Ok-clause-refused
returns-in-Ok-clause-refused g c = λ w s e is free.
    let h = world_parts c.args.self.now in
    let rules = g.P.Policy.rules in
    let good : apply_refusal h c.args.caller c.args.name ≡ None = sym c.apply_refusal.ensures ∙ c.in_default.is in
    let into : c.parent-into.result ≡ h.ids.parent c.args.name = c.parent-into.ensures in
    let none : HasNoClash rules h c.args.name c.parent-into.result =
    none_clashes rules h c.args.name c.parent-into.result c.in-Some-settle.settled.items
    (noted_of c.args.self.now.wrote c.args.name) c.in-Some-settle.ensures.objects
    c.in-Some-settle.ensures.each in
    absurd (apply_not_refused rules s c.args.caller c.args.name good
    (subst (λ (n : ℕ). HasNoClash rules h c.args.name n) into none) e is)

pub returns-clause-call : goal.returns-clause-call
returns-clause-call g c = λ w s. pads_stand g.P.Policy.rules _ _ w s c.in-Err-put_settled.ensures.err

pub returns-clause-refused : goal.returns-clause-refused
returns-clause-refused g c = λ w s e is free.
    let h = world_parts c.args.self.now in
    let rules = g.P.Policy.rules in
    let good : apply_refusal h c.args.caller c.args.name ≡ None = sym c.apply_refusal.ensures ∙ c.in_default.is in
    let into : c.parent-into.result ≡ h.ids.parent c.args.name = c.parent-into.ensures in
    let none : HasNoClash rules h c.args.name c.parent-into.result =
    none_clashes rules h c.args.name c.parent-into.result c.in-Some-settle.settled.items
    (noted_of c.args.self.now.wrote c.args.name) c.in-Some-settle.ensures.objects
    c.in-Some-settle.ensures.each in
    absurd (apply_not_refused rules s c.args.caller c.args.name good
    (subst (λ (n : ℕ). HasNoClash rules h c.args.name n) into none) e is)

pub returns-in-Err-clause-refused : goal.returns-in-Err-clause-refused
returns-in-Err-clause-refused g c = λ w s e is free.
    let h = world_parts c.args.self.now in
    let good : apply_refusal h c.args.caller c.args.name ≡ None = sym c.apply_refusal.ensures ∙ c.in_default.is in
    let into : c.parent-into.result ≡ h.ids.parent c.args.name = c.parent-into.ensures in
    let m = apply_good h c.args.caller c.args.name good in
    let frees = apply_conflicts g.P.Policy.rules g.P.Policy.is_free_merge s c.args.caller c.args.name good e is free in
    absurd (no_bool (c.in-Err.ensures.free w s m.inner
    (λ x noted. subst (λ (n : ℕ). IsMergeFree g.P.Policy.is_free_merge w c.args.name n x) (sym into)
    (frees x noted)))) where
      no_bool : false ≡ true → ⊥
      no_bool h = cc

pub returns-in-Ok-clause-unnoted : goal.returns-in-Ok-clause-unnoted
returns-in-Ok-clause-unnoted g c = c.in-Ok.ensures.ok.noted_name
