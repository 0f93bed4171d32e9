use Rattle.std.proofs.Common.{◌≡◌, List, sym, ap, ◌∙◌, subst, Some, None, refl}
use Rattle.std.proofs.lemmas.Option.{slice_get_read}
use Rattle.std.proofs.Common.{length}
use Rattle.rt_values.specs.declared.value.Value.{Value}
use Rattle.snap_nested.specs.declared.family.Member.{Member}
use Rattle.snap_records.specs.Records.{Rec}
use Rattle.snap_records.specs.Edits.{readable}
use Rattle.snap_records.proofs.Readable.{read_found, read_none}
use Rattle.snap_nested.specs.Members.{member}
use Rattle.snap_ids.specs.IdLists.{is_valid}
use Rattle.snap_records.specs.Chains.{record_at, chain_of}
use Rattle.snap_world.proofs.world.RecordWorld.compare.Goals as goal

pub returns-in-Some-clause-is : goal.returns-in-Some-clause-is
returns-in-Some-clause-is g c =
    let m : Member = member c.args.self.now.family.members c.args.name in
    let q : Rec = record_at c.args.self.now.chains c.in-Some.record.0 in
    let chain : List Rec = chain_of c.args.self.now.chains c.args.object in
    let at_both : Some q ≡ readable (is_valid m.id m.invalid) chain =
    subst (λ (o : Member). Some q ≡ readable (is_valid o.id o.invalid) chain) c.member-member.ensures
    c.in-Some.ensures.is in
    record {
      object = c.index-kept.result.now;
      there = slice_get_read c.args.self.now.objects.items (length c.args.self.now.objects.items) c.args.object
          c.index-kept.result.now refl c.requires.there c.index-kept.ensures;
      entry = q.entry;
      reads = read_found (is_valid m.id m.invalid) chain q at_both;
      is = ap (λ (v : Value). g.P.Policy.rules.equiv c.index-kept.result.now.policy v c.args.value.now)
          (sym c.value.ensures) ∙ sym c.equivalent.ensures;
    }

pub returns-in-None-clause-none : goal.returns-in-None-clause-none
returns-in-None-clause-none g c =
    let m : Member = member c.args.self.now.family.members c.args.name in
    let chain : List Rec = chain_of c.args.self.now.chains c.args.object in
    let at_both : None ≡ readable (is_valid m.id m.invalid) chain =
    subst (λ (o : Member). None ≡ readable (is_valid o.id o.invalid) chain) c.member-member.ensures
    c.in-None.ensures.is in
    λ e reads. read_none (is_valid m.id m.invalid) chain e at_both reads
