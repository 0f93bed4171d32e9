use Rattle.std.proofs.Common.{◌≡◌, ◌+◌, ap, ◌∙◌, Some, length, refl}
use Rattle.std.specs.Prelude.{slice_get}
use Rattle.std.proofs.lemmas.Option.{slice_get_read}
use Rattle.rt_values.specs.declared.maps.StampedValue.{StampedValue}
use Rattle.snap_api.specs.Settle.{verdict}
use Rattle.snap_api.specs.declared.data.Object.{Object}
use Rattle.snap_api.specs.Choices.{choice_of}
use Rattle.snap_laws.specs.Applies.{choice_at}
use Rattle.snap_records.specs.Chains.{record_at}
use Rattle.snap_world.specs.Holding.{world_parts}
use Rattle.snap_api.specs.declared.choice.Choice.{Choice}
use Rattle.snap_world.proofs.Reading.{ok_more, choice_read}
use Rattle.snap_world.proofs.world.RecordWorld.choose.Goals as goal

pub returns : goal.returns
returns g c =
    let s = c.args.self.now in
    let o : Object _ = c.index.result.now in
    let there : slice_get s.objects.items c.args.object ≡ Some o =
    slice_get_read s.objects.items (length s.objects.items) c.args.object o refl c.requires.there c.index.ensures in
    let rules = g.P.Policy.rules in
    let k = s.clock + 1 in
    let p : StampedValue = (record_at s.chains c.in-Some.read.previous.0).entry in
    let d : StampedValue = (record_at s.chains c.in-Some.read.current.0).entry in
    let is : choice_of (verdict rules o.policy c.entry.result.now c.entry-2.result.now c.entry-3.result.now k) c.entry-2.result.now ≡ choice_at rules (world_parts s) c.args.name c.args.into c.args.object =
    ap (λ (e : StampedValue). choice_of (verdict rules o.policy e c.entry-2.result.now c.entry-3.result.now k)
    c.entry-2.result.now) c.entry.ensures
    ∙ ap (λ (e : StampedValue). choice_of (verdict rules o.policy p e c.entry-3.result.now k) e) c.entry-2.ensures
    ∙ ap (λ (e : StampedValue). choice_of (verdict rules o.policy p d e k) d) c.entry-3.ensures
    ∙ choice_read rules s c.args.name c.args.into c.args.object c.in-Some.read o c.in-Some.ensures.is there in
    ok_more (λ (one : Choice). one
    ≡ choice_of (verdict rules o.policy c.entry.result.now c.entry-2.result.now c.entry-3.result.now k)
    c.entry-2.result.now) (λ (one : Choice). one
    ≡ choice_at rules (world_parts s) c.args.name c.args.into c.args.object)
    c.choose.result c.choose.ensures (λ one h. h ∙ is)
