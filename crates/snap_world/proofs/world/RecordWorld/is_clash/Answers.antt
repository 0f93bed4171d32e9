use Rattle.std.proofs.Common.{◌≡◌, ℕ, ◌+◌, List, sym, ap, ◌∙◌, Some, length, refl, subst}
use Rattle.std.specs.Prelude.{slice_get}
use Rattle.std.proofs.lemmas.Option.{slice_get_read}
use Rattle.rt_values.specs.Maps.{entry_at}
use Rattle.rt_values.specs.declared.maps.StampedValue.{StampedValue}
use Rattle.snap_api.specs.Settle.{verdict}
use Rattle.snap_api.specs.World.{snapshot_of}
use Rattle.snap_api.specs.declared.data.Object.{Object}
use Rattle.snap_api.specs.Choices.{choice_of, is_clash}
use Rattle.snap_laws.specs.Applies.{choice_at}
use Rattle.snap_records.specs.Chains.{record_at}
use Rattle.snap_world.specs.Holding.{world_parts}
use Rattle.snap_world.proofs.Reading.{ok_more, choice_read, read_view, read_base}
use Rattle.snap_world.proofs.world.RecordWorld.is_clash.Goals as goal

pub returns-clause-is : goal.returns-clause-is
returns-clause-is g c =
    let s = c.args.self.now in
    let o : Object _ = c.index.result.now in
    let there : slice_get s.objects.items c.args.object ≡ Some o =
    slice_get_read s.objects.items (length s.objects.items) c.args.object o refl c.requires.there c.index.ensures in
    let rules = g.P.Policy.rules in
    let k = s.clock + 1 in
    let p : StampedValue = (record_at s.chains c.in-Some.read.previous.0).entry in
    let d : StampedValue = (record_at s.chains c.in-Some.read.current.0).entry in
    let is : choice_of (verdict rules o.policy c.entry.result.now c.entry-2.result.now c.entry-3.result.now k) c.entry-2.result.now ≡ choice_at rules (world_parts s) c.args.name c.args.into c.args.object =
    ap (λ (e : StampedValue). choice_of (verdict rules o.policy e c.entry-2.result.now c.entry-3.result.now k)
    c.entry-2.result.now) c.entry.ensures
    ∙ ap (λ (e : StampedValue). choice_of (verdict rules o.policy p e c.entry-3.result.now k) e) c.entry-2.ensures
    ∙ ap (λ (e : StampedValue). choice_of (verdict rules o.policy p d e k) d) c.entry-3.ensures
    ∙ choice_read rules s c.args.name c.args.into c.args.object c.in-Some.read o c.in-Some.ensures.is there in
    ok_more (λ found. (now : ℕ) → found
    ≡ is_clash (choice_of (verdict rules o.policy c.entry.result.now c.entry-2.result.now c.entry-3.result.now now)
    c.entry-2.result.now)) (λ found. found
    ≡ is_clash (choice_at rules (world_parts s) c.args.name c.args.into c.args.object))
    c.is_conflict.result c.is_conflict.ensures.found (λ found h. h k ∙ ap is_clash is)

pub returns-clause-free : goal.returns-clause-free
returns-clause-free g c = λ w s inner free.
    let held = c.args.self.now in
    let o : Object _ = c.index.result.now in
    let there : slice_get held.objects.items c.args.object ≡ Some o =
    slice_get_read held.objects.items (length held.objects.items) c.args.object o refl c.requires.there
    c.index.ensures in
    let a = c.in-Some.ensures.is in
    let b : c.entry.result.now ≡ entry_at (snapshot_of w c.args.name).base c.args.object = c.entry.ensures ∙ a.previous
    ∙ read_base s c.args.name c.args.object c.requires.live inner c.requires.there in
    let p : c.entry-2.result.now ≡ entry_at (snapshot_of w c.args.into).view c.args.object = c.entry-2.ensures
    ∙ a.current ∙ read_view s c.args.into c.args.object c.requires.above c.requires.there in
    let v : c.entry-3.result.now ≡ entry_at (snapshot_of w c.args.name).view c.args.object = c.entry-3.ensures
    ∙ a.applied ∙ read_view s c.args.name c.args.object c.requires.live c.requires.there in
    let known : slice_get w.objects c.args.object ≡ Some o =
    ap (λ (os : List (Object _)). slice_get os c.args.object) s.objects_are ∙ there in
    let is_free = g.P.Policy.is_free_merge in
    c.is_conflict.ensures.free (subst (λ (e : StampedValue). is_free o.policy e.value c.entry-2.result.now.value
    c.entry-3.result.now.value) (sym b)
    (subst (λ (e : StampedValue). is_free o.policy
    (entry_at (snapshot_of w c.args.name).base c.args.object).value e.value c.entry-3.result.now.value) (sym p)
    (subst (λ (e : StampedValue). is_free o.policy
    (entry_at (snapshot_of w c.args.name).base c.args.object).value (entry_at (snapshot_of w
    c.args.into).view c.args.object).value e.value) (sym v) (free o known))))
