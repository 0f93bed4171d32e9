use Rattle.std.proofs.Common.{◌≡◌, sym, ◌∙◌, ap, true, false, Some}
use Rattle.std.specs.Prelude.{slice_get}
use Rattle.rt_values.specs.Values.{type_of, same_type}
use Rattle.snap_plain.specs.Plain.{world_of}
use Rattle.snap_plain.proofs.Tests.{object_there, refused_readonly, refused_type, writes_to}
use Rattle.snap_plain.proofs.world.PlainWorld.object_refusal.Goals as goal

pub returns-then-not-is_mutable : goal.returns-then-not-is_mutable
returns-then-not-is_mutable g c =
    let there : slice_get c.args.self.now.objects.items c.args.object ≡ Some c.in-Some.kept.now =
    object_there _ _ _ _ c.deref.ensures.value c.in-Some.ensures.lookup.3.0 c.in-Some.ensures.lookup.1 in
    λ caller. refused_readonly g.P.Policy.rules (world_of c.args.self.now) caller c.args.name c.args.object
    c.args.value.now c.in-Some.kept.now there (sym c.is_mutable.ensures ∙ c.if-not-is_mutable.true)

pub returns-then-not-same : goal.returns-then-not-same
returns-then-not-same g c =
    let there : slice_get c.args.self.now.objects.items c.args.object ≡ Some c.in-Some.kept.now =
    object_there _ _ _ _ c.deref.ensures.value c.in-Some.ensures.lookup.3.0 c.in-Some.ensures.lookup.1 in
    let other : same_type (type_of c.args.value.now) c.in-Some.kept.now.ty ≡ false =
    ap (λ t. same_type t c.in-Some.kept.now.ty) (sym c.ty.ensures) ∙ sym c.same.ensures ∙ c.if-not-same.true in
    λ caller. refused_type g.P.Policy.rules (world_of c.args.self.now) caller c.args.name c.args.object
    c.args.value.now c.in-Some.kept.now there (sym c.is_mutable.ensures ∙ c.if-not-is_mutable.false) other

pub returns : goal.returns
returns g c =
    let there : slice_get c.args.self.now.objects.items c.args.object ≡ Some c.in-Some.kept.now =
    object_there _ _ _ _ c.deref.ensures.value c.in-Some.ensures.lookup.3.0 c.in-Some.ensures.lookup.1 in
    let same : same_type (type_of c.args.value.now) c.in-Some.kept.now.ty ≡ true =
    ap (λ t. same_type t c.in-Some.kept.now.ty) (sym c.ty.ensures) ∙ sym c.same.ensures ∙ c.if-not-same.false in
    λ caller. writes_to g.P.Policy.rules (world_of c.args.self.now) caller c.args.name c.args.object
    c.args.value.now c.in-Some.kept.now there (sym c.is_mutable.ensures ∙ c.if-not-is_mutable.false) same
