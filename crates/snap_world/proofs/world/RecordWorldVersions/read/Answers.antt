use Rattle.std.proofs.Common.{◌≡◌, sym, ap, ◌∙◌, None}
use Rattle.rt_values.specs.declared.maps.StampedValue.{StampedValue}
use Rattle.rt_values.specs.declared.value.Value.{Value}
use Rattle.rt_values.specs.Maps.{entry_at}
use Rattle.rt_values.specs.Values.{is_flat}
use Rattle.snap_api.specs.World.{snapshot_of}
use Rattle.snap_laws.proofs.Others.{reads_right}
use Rattle.snap_api.specs.declared.data.Reply.TheVariants as reply
use Rattle.snap_laws.specs.Reads.{read_refusal}
use Rattle.snap_laws.proofs.Takes.{like_itself, does_refused}
use Rattle.snap_laws.proofs.Gets.{reads_answer, read_good}
use Rattle.snap_records.specs.Chains.{record_at}
use Rattle.snap_laws.proofs.FreeRefusals.{read_not_refused}
use Rattle.snap_world.specs.Holding.{world_parts}
use Rattle.snap_world.proofs.world.RecordWorldVersions.read.Goals as goal

pub returns-in-Some-clause-call : goal.returns-in-Some-clause-call
returns-in-Some-clause-call g c = does_refused _ _ _ c.in-Some.refusal (λ w s. s)
    (λ w s. (reads_answer g.P.Policy.rules (world_parts c.args.self.now) _ w c.args.caller c.args.name c.args.object
    s).0 c.in-Some.refusal (sym c.read_refusal.ensures ∙ c.in-Some.is) (like_itself _))

pub shown-requires : goal.shown-requires
shown-requires g c = let k =
    read_good (world_parts c.args.self.now) c.args.caller c.args.name c.args.object
    (sym c.read_refusal.ensures ∙ c.in_default.is) in record { live = k.live; there = k.there }

pub returns-clause-call : goal.returns-clause-call
returns-clause-call g c = λ w s.
    let good : read_refusal (world_parts c.args.self.now) c.args.caller c.args.name c.args.object ≡ None =
    sym c.read_refusal.ensures ∙ c.in_default.is in
    let e = (record_at c.args.self.now.chains c.in-Some-shown.record.0).entry in
    let d = (reads_answer g.P.Policy.rules (world_parts c.args.self.now) (world_parts c.args.self.now) w c.args.caller
    c.args.name c.args.object s).1 e good c.in-Some-shown.ensures.is (like_itself _) in
    let v : c.in-Ok.value ≡ e.value = c.in-Ok.ensures.same ∙ c.value.ensures in
    (ap (λ (u : Value). reply.Got u) v ∙ d.0, d.1)

pub returns-in-Some-clause-refused : goal.returns-in-Some-clause-refused
returns-in-Some-clause-refused g c =
    λ w s e is. ((reads_answer g.P.Policy.rules (world_parts c.args.self.now) (world_parts c.args.self.now) w c.args.caller
    c.args.name c.args.object s).0 c.in-Some.refusal (sym c.read_refusal.ensures ∙ c.in-Some.is) (like_itself _)).0
    ∙ is

pub returns-in_default-shown-clause-refused : goal.returns-in_default-shown-clause-refused
returns-in_default-shown-clause-refused g c = λ w s e is. absurd (read_not_refused g.P.Policy.rules s c.args.caller
    c.args.name c.args.object (sym c.read_refusal.ensures ∙ c.in_default.is) e is)

pub returns-in_default-copy-clause-refused : goal.returns-in_default-copy-clause-refused
returns-in_default-copy-clause-refused g c = λ w s e is. absurd (read_not_refused g.P.Policy.rules s c.args.caller
    c.args.name c.args.object (sym c.read_refusal.ensures ∙ c.in_default.is) e is)

pub returns-clause-refused : goal.returns-clause-refused
returns-clause-refused g c = λ w s e is. absurd (read_not_refused g.P.Policy.rules s c.args.caller c.args.name
    c.args.object (sym c.read_refusal.ensures ∙ c.in_default.is) e is)

pub returns-in_default-shown-clause-flat : goal.returns-in_default-shown-clause-flat
returns-in_default-shown-clause-flat g c = λ w s flat same.
    let k = read_good (world_parts c.args.self.now) c.args.caller c.args.name c.args.object
    (sym c.read_refusal.ensures ∙ c.in_default.is) in
    c.in_default-shown.ensures.none (entry_at (snapshot_of w c.args.name).view c.args.object)
    (s.kept.shown.views c.args.name c.args.object k.live k.there)

pub returns-in_default-copy-clause-flat : goal.returns-in_default-copy-clause-flat
returns-in_default-copy-clause-flat g c = λ w s flat same.
    let h = world_parts c.args.self.now in
    let k = read_good h c.args.caller c.args.name c.args.object (sym c.read_refusal.ensures ∙ c.in_default.is) in
    let e = (record_at c.args.self.now.chains c.in-Some-shown.record.0).entry in
    let right = reads_right g.P.Policy.rules h w c.args.name c.args.object e s k.live k.there
    c.in-Some-shown.ensures.is in
    c.in_default-copy.ensures.flat (ap is_flat (c.value.ensures ∙ ap (λ (d : StampedValue). d.value) right) ∙ flat)
